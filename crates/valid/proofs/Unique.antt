-- The promise of `is_valid` leaves one answer.
-- Assumes nothing.
use mathlib.Core.Bool.{Bool}
use Rattle.base.proofs.Unique.{OneAnswer}
use Rattle.valid.proofs.Decisions.{one_decision}
use Rattle.valid.proofs.is_valid.Reads as is-valid

pub is_valid_one : OneAnswer {Seen = Bool} is-valid.Post (λ κs r s. r)
is_valid_one κs a r r' s s' = one_decision
