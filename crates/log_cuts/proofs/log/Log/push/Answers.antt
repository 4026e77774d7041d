-- A writer writes no more than there are places.
use Rattle.log_cuts.proofs.Taken.{writes_within}
use native.Mathlib.Omega.{arith}
use Rattle.log_cuts.proofs.log.Log.push.Goals as goal

pub overflow_add-self : goal.overflow_add-self
overflow_add-self c =
    let written = writes_within _ _ c.put_entry.result c.put_entry.ensures in
    record { fits = omega (arith, written, c.unwrap_or.ensures) }

pub invariant_of-self : goal.invariant_of-self
invariant_of-self c =
    let written = writes_within _ _ c.put_entry.result c.put_entry.ensures in
    record { in_bounds = omega (arith, written, c.unwrap_or.ensures) }
