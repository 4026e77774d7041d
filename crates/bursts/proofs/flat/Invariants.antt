-- `bursts::flat` meets its contract. The invariant: the first k sets are in their places.
-- Assumes nothing.
use mathlib.Core.Path.{◌≡◌}
use lib.ListN.{length, take}
use Rattle.bursts.specs.Burst.{sixteens}
use Rattle.bursts.proofs.flat.Given as goal

abbrev pub invariant-loop-k : goal.invariant-loop-k
invariant-loop-k l = (length l.numbers ≡ 128) × (sixteens l.k l.numbers ≡ take l.k l.set-items)
