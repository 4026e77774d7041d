-- Assumes nothing.
use native.Mathlib.Omega.{arith}
use Rattle.groups.proofs.Fronts.{front_on}
use Rattle.groups.proofs.read.Goals as goal

pub loop-i-preserved : goal.loop-i-preserved
loop-i-preserved c = front_on c.loop-i.invariant c.loop-i-test.true c.next.ensures (omega (arith, c.type_inv.s c.loop-i.i)) c.in-GoesOn.is
