use mathlib.Core.Path.{◌∙◌}
use native.Mathlib.Omega.{arith}
use lib.ListN.{length-set}
use Rattle.groups.proofs.Steps.{more_long, put_rest}
use Rattle.groups.proofs.put_all.Goals as goal

pub bounds-out-i : goal.bounds-out-i
bounds-out-i c =
    let loop = c.loop-left in omega (arith, more_long loop.left c.loop-left-test.true, loop.invariant.0)

pub loop-left-preserved : goal.loop-left-preserved
loop-left-preserved c =
    let loop = c.loop-left in
    let high = c.loop-left-test.true in (
      rw length-set (omega (arith, more_long loop.left high, loop.invariant.0)),
      (
        put_rest loop.out loop.i loop.left c.low_group.result high loop.invariant.0 c.low_group.ensures ∙ loop.invariant.1.0,
        simp length-set loop.invariant.1.1,
      ),
    )
