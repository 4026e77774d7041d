-- Each item leaves a byte less.
use Rattle.std.proofs.Common.{length}
use Rattle.log_cuts.proofs.items.Given as goal

abbrev pub invariant-loop-size : goal.invariant-loop-size
invariant-loop-size g l = Unit {0}

abbrev pub decreases-loop-size : goal.decreases-loop-size
decreases-loop-size g l = length l.rest
