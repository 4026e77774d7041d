-- `comparing::is_counted` meets its contract. Assumes nothing.
use mathlib.Core.Path.{sym}
use Prim.Native.Nat.{◌+◌}
use native.Mathlib.Omega.{arith}
use Rattle.reading.specs.Positions.{greatest, is_within}
use borrow.Author.Tests.{lt-leb}
use Rattle.comparing.proofs.is_counted.Goals as goal

pub returns-then-agree-differ : goal.returns-then-agree-differ
unfolding is_within
returns-then-agree-differ c =
    let a = c.args in
    sym (lt-leb (a.counts.agree + a.counts.differ + 1 + a.left + a.right) greatest (omega (arith, c.if-agree-differ.true)))

pub returns : goal.returns
returns c =
    c.is_within.ensures
