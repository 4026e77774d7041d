-- The reader is a state, and there is room for the lines of any piece. Assumes nothing.
use Rattle.std.proofs.Common.{length}
use Rattle.log_io.specs.State.{Ready}
use Rattle.log_io.proofs.list_reads.Given as goal

abbrev pub invariant-loop : goal.invariant-loop
invariant-loop l = Ready l.places l.reader (length l.piece) (length l.out)
