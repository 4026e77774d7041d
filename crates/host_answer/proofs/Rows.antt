-- What a row says in eight bytes, where it is a refusal's.
-- Assumes nothing.
use mathlib.Core.Path.{◌≡◌, ap}
use mathlib.Core.Bool.{false}
use native.Mathlib.Omega.{arith}
use borrow.Author.Tests.{ne_eqb}
use lib.Dec.{eqb}
use Rattle.refusals.specs.Row.{row_of, number_of}
use Rattle.refusals.specs.declared.Refusal.{Refusal}
use Rattle.refusals.proofs.Rows.{number_bounds}
use Rattle.host_answer.specs.Answer.{answer_refusal, answer_row, in_bytes}

-- a refusal's number is not that of a success
pub not_success : (r : Refusal) → eqb (number_of r) 0 ≡ false
not_success r = ne_eqb (number_of r) 0 (λ e. omega (arith, number_bounds r))

-- a refusal answered by its row is the refusal's answer
pub row_refusal : (r : Refusal) → answer_row (row_of r) ≡ answer_refusal r
unfolding answer_row
row_refusal r = simp (not_success r)

-- .. whose counts are 0, so each fits a byte
pub refusal_row : (r : Refusal) → in_bytes (answer_row (row_of r)) ≡ answer_refusal r
refusal_row r = ap in_bytes (row_refusal r)
