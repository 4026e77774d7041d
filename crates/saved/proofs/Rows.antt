-- What a restore says is known by its row, so a promise of the row leaves one answer.
-- Assumes nothing.
use Rattle.std.specs.Prelude.{Ok, Err}
use Prim.Native.Nat.{ℕ}
use mathlib.Core.Path.{◌≡◌, sym, ap, ap₂, ◌∙◌}
use mathlib.Core.List.{List}
use lib.ListN.{get_or}
use Rattle.refusals.proofs.Rows.{one_refusal, not_zero}
use Rattle.saved.specs.Save.{Restored}
use Rattle.saved.specs.Save.{restored_row}

by_cases : (w v : Restored) → restored_row w ≡ restored_row v → w ≡ v
unfolding restored_row
by_cases (Ok n) (Ok k) same = ap (λ (row : List ℕ). Ok (get_or row 1 0)) same
by_cases (Ok n) (Err s) same = absurd (not_zero s (sym same))
by_cases (Err r) (Ok k) same = absurd (not_zero r same)
by_cases (Err r) (Err s) same = ap Err (one_refusal same)

pub one_restored : {w v : Restored} → restored_row w ≡ restored_row v → w ≡ v
one_restored {w} {v} = by_cases w v

-- a promise of the row, and of what was lent or is handed back, leaves one of each
module _ {A : Type 0} where
  pub one_restore : {w v : Restored} {a b : A} {x : List ℕ × A} → (restored_row w, a) ≡ x → (restored_row v, b) ≡ x
      → ◌≡◌ {A = Restored × A} (w, a) (v, b)
  one_restore {w} {v} {a} {b} p q =
      let both = p ∙ sym q in
      let one : w ≡ v = one_restored (ap (λ (y : List ℕ × A). y.0) both) in
      let left : a ≡ b = ap (λ (y : List ℕ × A). y.1) both in
      ap₂ (λ (y : Restored) (z : A). (y, z)) one left
