-- `frames::put_rc_channels` meets its contract: head and check byte about the payload in its place are the frame. Assumes nothing.
use mathlib.Core.Path.{◌≡◌, sym, ap, ◌∙◌}
use mathlib.Core.List.{List, ◌∷◌}
use Prim.Native.Nat.{ℕ}
use native.Mathlib.Omega.{arith}
use lib.ListN.{length, drop, length-drop}
use lib.Seq.{length-take-le}
use Rattle.base.specs.Parts.{pasted}
use Rattle.base.proofs.Parts.{placed_fits, placed_short, cut_out, around, put_there}
use Rattle.reading.specs.Frame.{frame}
use Rattle.channels.specs.Digits.{number}
use Rattle.channels.specs.Channels.{channels_type, channels_size, channel_bytes, low_bits}
use Rattle.channels.proofs.Digits.{length_digits}
use Rattle.frames.proofs.Built.{frame_size_lem, stored}
use Rattle.frames.proofs.put_rc_channels.Goals as goal

pub returns-then-buffer-lt-CHANNELS_FRAME : goal.returns-then-buffer-lt-CHANNELS_FRAME
returns-then-buffer-lt-CHANNELS_FRAME c =
    let Payload : List ℕ = channel_bytes (low_bits c.args.packet.0) in
    let Whole : List ℕ = frame c.args.dest (channels_type ∷ Payload) in
    let payload_long : length Payload ≡ channels_size = length_digits 8 channels_size (number 11 (low_bits c.args.packet.0)) in
    let whole_long : length Whole ≡ 26 = frame_size_lem Payload channels_size c.args.dest channels_type payload_long in
    sym (placed_short c.args.buffer.now Whole (omega (arith, c.if-buffer-lt-CHANNELS_FRAME.true, whole_long)))

pub returns : goal.returns
returns c =
    let Payload : List ℕ = channel_bytes (low_bits c.args.packet.0) in
    let payload_long : length Payload ≡ channels_size = length_digits 8 channels_size (number 11 (low_bits c.args.packet.0)) in
    let Whole : List ℕ = frame c.args.dest (channels_type ∷ Payload) in
    let whole_long : length Whole ≡ 26 = frame_size_lem Payload channels_size c.args.dest channels_type payload_long in
    let put_so : (around c.args.buffer.now 3 25 c.put.new.buffer ≡ pasted c.args.buffer.now 3 Payload) = let b = c.args.buffer.now in
    let places : length (cut_out b 3 25) ≡ 22 = length-take-le 22 (drop 3 b) (omega (arith, length-drop 3 b, c.if-buffer-lt-CHANNELS_FRAME.false)) in
    ap (around b 3 25) (c.put.ensures ∙ placed_fits (cut_out b 3 25) 0 Payload (omega (arith, places, payload_long)))
    ∙ put_there b 3 25 Payload (omega (arith, places, payload_long)) in
    let b = c.args.buffer.now in
    stored Payload channels_size c.args.dest channels_type payload_long b c.if-buffer-lt-CHANNELS_FRAME.false put_so c.seal.ensures
    ∙ sym (placed_fits b 0 Whole (omega (arith, c.if-buffer-lt-CHANNELS_FRAME.false, whole_long)))
