-- Each public function's promise leaves one answer and one content of the buffer.
-- Assumes nothing.
use mathlib.Core.List.{List}
use Prim.Native.Nat.{ℕ}
use Rattle.base.proofs.Unique.{OneAnswer}
use Rattle.writing.specs.Writing.{Written}
use Rattle.writing.proofs.Rows.{one_write}
use Rattle.log_writer.proofs.put_start.Reads as put-start
use Rattle.log_writer.proofs.put_entry.Reads as put-entry

pub put_start_one : OneAnswer {Seen = Written × List ℕ} put-start.Post (λ κs r s. (r, s.0.now))
put_start_one κs a r r' s s' = one_write

pub put_entry_one : OneAnswer {Seen = Written × List ℕ} put-entry.Post (λ κs r s. (r, s.1.1.0.now))
put_entry_one κs a r r' s s' = one_write
