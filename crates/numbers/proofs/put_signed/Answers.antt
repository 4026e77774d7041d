-- `numbers::put_signed` meets its contract: the low bytes of the 32 bits are the bits at the width. Assumes nothing.
use mathlib.Core.Path.{◌≡◌, ap, ◌∙◌}
use Prim.Native.Nat.{ℕ}
use native.Mathlib.Omega.{arith}
use mir.Syntax.{w32}
use mir.ValLaws.{to_z-of_z}
use Rattle.numbers.specs.Width.{width_of}
use Rattle.numbers.specs.BigEndian.{bytes_of}
use Rattle.numbers.specs.TwosComplement.{twos_of}
use Rattle.base.specs.Parts.{placed}
use Rattle.numbers.proofs.TwosComplement.{bytes_of_twos_of}
use Rattle.numbers.proofs.put_signed.Goals as goal

pub returns : goal.returns
returns c =
    let w : ℕ = width_of c.args.width in
    let low : bytes_of w c.bits.result ≡ bytes_of w (twos_of w c.args.v) =
    ap (bytes_of w) (c.bits.ensures ∙ ap (twos_of 4) (to_z-of_z w32 c.args.v c.ranges.v))
    ∙ bytes_of_twos_of w 4 c.args.v (omega arith) in
    c.put.ensures ∙ ap (placed c.args.out.now c.args.at) low
