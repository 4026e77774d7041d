-- The promises of this crate's functions leave one answer.
-- Assumes nothing.
use Prim.Native.Nat.{ℕ}
use mathlib.Core.List.{List}
use Rattle.base.proofs.Unique.{OneAnswer, same}
use Rattle.groups.specs.declared.Step.{Step}
use Rattle.groups.specs.Reading.{Front}
use Rattle.writing.specs.Writing.{Written}
use Rattle.writing.proofs.Rows.{one_write}
use Rattle.groups.proofs.next.Reads as next
use Rattle.groups.proofs.read.Reads as read
use Rattle.groups.proofs.size.Reads as size
use Rattle.groups.proofs.put.Reads as put

pub next_one : OneAnswer {Seen = Step} next.Post (λ κs r s. r)
next_one κs a r r' s s' = same

pub read_one : OneAnswer {Seen = Front} read.Post (λ κs r s. r)
read_one κs a r r' s s' = same

pub size_one : OneAnswer {Seen = ℕ} size.Post (λ κs r s. r)
size_one κs a r r' s s' = same

pub put_one : OneAnswer {Seen = Written × List ℕ} put.Post (λ κs r s. (r, s.1.0.now))
put_one κs a r r' s s' = one_write
