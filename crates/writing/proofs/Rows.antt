-- What a writer says is told by its row, so a promise of the row leaves one answer.
-- Assumes nothing.
use Rattle.std.specs.Prelude.{Ok, Err}
use Prim.Native.Nat.{ℕ}
use mathlib.Core.Path.{◌≡◌, sym, ap, ap₂, ◌∙◌}
use mathlib.Core.List.{List}
use lib.ListN.{get_or}
use Rattle.refusals.proofs.Rows.{one_refusal, not_zero}
use Rattle.writing.specs.Writing.{Written}
use Rattle.writing.specs.Writing.{written_row}

by_cases : (w v : Written) → written_row w ≡ written_row v → w ≡ v
unfolding written_row
by_cases (Ok n) (Ok k) same = ap (λ (row : List ℕ). Ok (get_or row 1 0)) same
by_cases (Ok n) (Err s) same = absurd (not_zero s (sym same))
by_cases (Err r) (Ok k) same = absurd (not_zero r same)
by_cases (Err r) (Err s) same = ap Err (one_refusal same)

pub one_written : {w v : Written} → written_row w ≡ written_row v → w ≡ v
one_written {w} {v} = by_cases w v

-- a writer's promise of row and buffer leaves one answer and one buffer
pub one_write : {w v : Written} {a b : List ℕ} {x : List ℕ × List ℕ} → (written_row w, a) ≡ x → (written_row v, b) ≡ x
    → ◌≡◌ {A = Written × List ℕ} (w, a) (v, b)
one_write {w} {v} {a} {b} p q =
    let both = p ∙ sym q in
    let one : w ≡ v = one_written (ap (λ (y : List ℕ × List ℕ). y.0) both) in
    let buffers : a ≡ b = ap (λ (y : List ℕ × List ℕ). y.1) both in
    ap₂ (λ (y : Written) (z : List ℕ). (y, z)) one buffers
