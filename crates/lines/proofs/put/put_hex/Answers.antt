-- `lines::put::put_hex` meets its contract. Assumes nothing.
use mathlib.Core.Path.{◌≡◌, ap, ap₂, ◌∙◌}
use mathlib.Core.List.{[], ◌∷◌}
use Prim.Native.Nat.{ℕ, ◌/◌, ◌%◌}
use native.Mathlib.Omega.{arith}
use lib.ListN.{length-set}
use Rattle.base.specs.Parts.{pasted}
use Rattle.lines.specs.Digits.{hex_digit}
use Rattle.lines.proofs.Puts.{three_bytes}
use Rattle.lines.proofs.put.put_hex.Goals as goal

pub bounds-out-at-2 : goal.bounds-out-at-2
bounds-out-at-2 c =
    simp length-set (omega arith)

pub bounds-out-at-3 : goal.bounds-out-at-3
bounds-out-at-3 c =
    simp length-set (omega arith)

pub returns : goal.returns
returns c =
    let a = c.args in
    let two : a.b / 16 ≡ a.b / 16 % 16 = omega (arith, c.ranges.b) in
    record {
      next = omega arith;
      written = three_bytes a.out.now a.at 32 c.hex_digit.result c.hex_digit-2.result c.requires
          ∙ ap₂ (λ (x y : ℕ). pasted a.out.now a.at (32 ∷ x ∷ y ∷ [])) (c.hex_digit.ensures ∙ ap hex_digit two) c.hex_digit-2.ensures;
    }
