use mathlib.Core.Path.{◌≡◌, ap, ◌∙◌}
use mathlib.Core.List.{List, ◌++◌, append-nil}
use Prim.Native.Nat.{ℕ}
use native.Mathlib.Omega.{arith}
use lib.ListN.{length, take, drop, set, replicate}
use lib.Seq.{take_all}
use Rattle.base.specs.Parts.{pasted}
use Rattle.base.proofs.Parts.{pasted_front}
use borrow.Author.Tests.{lt-ltb, le-ltb}
use Rattle.layout.specs.Decoded.{record_row, read_row}
use Rattle.channels.specs.Digits.{number}
use Rattle.channels.specs.Channels.{channels_count, channels_size, channels_of, channels_read}
use Rattle.channels.proofs.Digits.{length_digits}
use Rattle.channels.proofs.Fill.{filling, fill_start, fill_front}
use Rattle.channels.proofs.RcChannelsPackedCrsfPacket.from_bytes.Goals as goal

pub returns-then-payload-lt-MIN_PAYLOAD_SIZE : goal.returns-then-payload-lt-MIN_PAYLOAD_SIZE
unfolding channels_read read_row
returns-then-payload-lt-MIN_PAYLOAD_SIZE c =
    simp (lt-ltb (length c.args.payload.now) channels_size (omega arith))

pub loop-i-init : goal.loop-i-init
loop-i-init c = fill_start (channels_of (take channels_size c.args.payload.now)) (replicate channels_count 0) 0

pub loop-i-preserved : goal.loop-i-preserved
loop-i-preserved c =
    let whole = take channels_size c.args.payload.now in
    let i = c.loop-i.i in
    let s = channels_of whole in
    let n : length s ≡ channels_count = length_digits 11 channels_count (number 8 whole) in
    ap (λ (l : List ℕ). set l i c.channel_of.result) c.loop-i.invariant
    ∙ ap (set (filling s (replicate channels_count 0) 0 i) i) c.channel_of.ensures
    ∙ fill_front s (replicate channels_count 0) i (omega arith) (omega arith)

pub returns : goal.returns
unfolding channels_read read_row
returns c =
    let payload = c.args.payload.now in
    let s = channels_of (take channels_size payload) in
    let long : length s ≡ channels_count = length_digits 11 channels_count (number 8 (take channels_size payload)) in
    let all : c.loop-i.i ≡ channels_count = omega arith in
    rw (le-ltb (length payload) channels_size (omega arith))
    (ap (λ (l : List ℕ). (record_row, record { 0 = l }))
    (c.loop-i.invariant ∙ ap (filling s (replicate channels_count 0) 0) all ∙ ap (pasted (replicate channels_count 0) 0) (take_all channels_count s (omega arith))
    ∙ pasted_front (replicate channels_count 0) s ∙ ap (λ (n : ℕ). s ++ drop n (replicate channels_count 0)) long ∙ append-nil s))
