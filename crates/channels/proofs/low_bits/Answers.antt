use mathlib.Core.Path.{◌≡◌, sym, ap, ◌∙◌}
use mathlib.Core.List.{List, ◌++◌, append-nil}
use Prim.Native.Nat.{ℕ, ◌%◌, ◌^◌}
use native.Mathlib.Omega.{arith}
use borrow.Author.Rules.{rules}
use lib.ListN.{length, get_or, drop, set, replicate, length-map, get_or-map}
use lib.Seq.{take_all}
use Rattle.base.specs.Parts.{pasted}
use Rattle.base.proofs.Parts.{pasted_front}
use Rattle.channels.specs.Channels.{channels_count, low_bits}
use Rattle.channels.proofs.Fill.{filling, fill_start, fill_front}
use Rattle.channels.proofs.low_bits.Goals as goal

pub loop-i-init : goal.loop-i-init
loop-i-init c =
    (omega arith, fill_start (low_bits c.args.channels) (replicate channels_count 0) 0)

pub loop-i-preserved : goal.loop-i-preserved
loop-i-preserved c =
    let all_there : length (low_bits c.args.channels) ≡ channels_count = let sixteen : length c.args.channels ≡ channels_count = search rules in
    length-map c.args.channels (λ (x : ℕ). x % 2 ^ 11) ∙ sixteen in
    let channels = c.args.channels in
    let i = c.loop-i.i in
    let all = all_there in (
      omega arith,
      ap (λ (l : List ℕ). set l i (get_or channels i 0 % 2 ^ 11)) c.loop-i.invariant.1
          ∙ ap (set (filling (low_bits channels) (replicate channels_count 0) 0 i) i) (sym (get_or-map (λ (x : ℕ). x % 2 ^ 11) channels i 0))
          ∙ fill_front (low_bits channels) (replicate channels_count 0) i (omega arith) (omega arith),
    )

pub returns : goal.returns
returns c =
    let all_there : length (low_bits c.args.channels) ≡ channels_count = let sixteen : length c.args.channels ≡ channels_count = search rules in
    length-map c.args.channels (λ (x : ℕ). x % 2 ^ 11) ∙ sixteen in
    let s = low_bits c.args.channels in
    let long = all_there in
    let all : c.loop-i.i ≡ channels_count = omega arith in
    c.loop-i.invariant.1 ∙ ap (filling s (replicate channels_count 0) 0) all ∙ ap (pasted (replicate channels_count 0) 0) (take_all channels_count s (omega arith))
    ∙ pasted_front (replicate channels_count 0) s ∙ ap (λ (n : ℕ). s ++ drop n (replicate channels_count 0)) long ∙ append-nil s
