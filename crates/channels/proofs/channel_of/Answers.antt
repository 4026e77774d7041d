-- `channels::channel_of` meets its contract: the three bytes that it reads hold the channel's bits.
-- Assumes nothing.
use mathlib.Core.Path.{◌≡◌, ap, ◌∙◌}
use Prim.Native.Nat.{ℕ, ◌*◌, ◌/◌, ◌%◌, ◌^◌, ◌+◌}
use native.Mathlib.Numerals.{add-one, add-two}
use native.Mathlib.Omega.{arith}
use lib.ListN.{get_or}
use Rattle.channels.specs.Digits.{number}
use Rattle.channels.specs.Channels.{channels_count}
use Rattle.channels.proofs.Digits.{places, regroup}
use Rattle.channels.proofs.channel_of.Goals as goal

pub returns : goal.returns
unfolding number places
returns c =
    let window : c.from-low.result + c.from-middle.result * 256 + c.from-high.result * 65536
    ≡ number 8 (places 3 (c.args.i * 11 / 8) c.args.payload.now) = let payload = c.args.payload.now in
    let at = c.args.i * 11 / 8 in
    omega (arith, ap (λ (n : ℕ). get_or payload n 0) (add-one at), ap (λ (n : ℕ). get_or payload n 0) (add-two at)) in
    let payload = c.args.payload.now in
    let i = c.args.i in
    let at = i * 11 / 8 in
    ap (λ (w : ℕ). w / 2 ^ (i * 11 % 8) % 2048) window
    ∙ regroup 8 11 channels_count 3 at (i * 11 % 8) payload i (λ j. (c.type_inv.payload j).fits) (omega arith) (omega arith) (omega arith)
