-- A writer writes no more than there are places.
use Rattle.log_cuts.proofs.Taken.{writes_within}
use native.Mathlib.Omega.{arith}
use Rattle.log_cuts.proofs.log.Log.new.Goals as goal

pub invariant_of-result : goal.invariant_of-result
invariant_of-result c = record { in_bounds = omega (arith, c.unwrap_or-len.ensures, writes_within _ _ c.put_start.result c.put_start.ensures) }
