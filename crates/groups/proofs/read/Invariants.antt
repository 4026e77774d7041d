-- `groups::read` meets its contract. The loop's invariant: what stands behind the bytes passed, read on with the value and the weight so far, is read
-- as the whole string. Assumes nothing.
use Rattle.groups.proofs.Fronts.{Passed}
use Rattle.groups.proofs.read.Given as goal

abbrev pub invariant-loop-i : goal.invariant-loop-i
invariant-loop-i l = Passed l.greatest l.s l.value l.weight l.i
