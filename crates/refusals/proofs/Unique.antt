-- The promise of `row_of` leaves one answer.
-- Assumes nothing.
use Rattle.base.proofs.Unique.{OneAnswer, same}
use Rattle.refusals.specs.declared.Row.{Row}
use Rattle.refusals.proofs.row_of.Reads as row_of

pub row_of_one : OneAnswer {Seen = Row} row_of.Post (λ κs r s. r)
row_of_one κs a r r' s s' = same
