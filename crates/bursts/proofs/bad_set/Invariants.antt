-- `bursts::bad_set` meets its contract. The invariant: the sets passed have no channel above 2047.
-- Assumes nothing.
use mathlib.Core.Path.{◌≡◌}
use Prim.Native.Nat.{◌+◌}
use lib.ListN.{drop}
use Rattle.bursts.specs.Burst.{first_bad, sixteens}
use Rattle.bursts.proofs.bad_set.Given as goal

abbrev pub invariant-loop-k : goal.invariant-loop-k
invariant-loop-k l = first_bad (sixteens l.count l.channels) ≡ l.k + first_bad (drop l.k (sixteens l.count l.channels))
