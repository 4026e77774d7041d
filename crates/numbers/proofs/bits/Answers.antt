-- `numbers::bits` meets its contract. Assumes nothing.
use mathlib.Core.Path.{◌≡◌, sym, ap, ◌∙◌}
use Prim.Native.Nat.{ℕ, suc, ◌-◌, ◌^◌}
use native.Mathlib.Nat.{mod-eq_of_lt}
use native.Mathlib.Omega.{arith}
use lib.IntN.{ℤ, pos, negsuc}
use mir.Syntax.{w32}
use mir.Val.{SFits, of_z}
use mir.ValLaws.{to_z-of_z}
use Rattle.numbers.specs.TwosComplement.{twos_of}
use Rattle.numbers.proofs.bits.Goals as goal

same_bits : (z : ℤ) → SFits w32 z → of_z w32 z ≡ twos_of 4 z
unfolding twos_of
same_bits (pos n) f = sym (mod-eq_of_lt (omega (arith, f.sfits)))
same_bits (negsuc n) f = ap (λ (m : ℕ). 256 ^ 4 - suc m) (sym (mod-eq_of_lt (omega (arith, f.sfits))))

pub returns : goal.returns
returns c =
    c.cast_unsigned.ensures ∙ ap (of_z w32) (to_z-of_z w32 c.args.v c.ranges.v) ∙ same_bits c.args.v c.ranges.v
