-- `bursts::put_sets` meets its contract. The invariant: the first k frames are written, and the rest of the buffer is as it was.
-- Assumes nothing.
use mathlib.Core.Path.{◌≡◌}
use Rattle.bursts.specs.Burst.{sixteens}
use Rattle.bursts.proofs.Turns.{filled}
use Rattle.bursts.proofs.put_sets.Given as goal

abbrev pub invariant-loop-k : goal.invariant-loop-k
invariant-loop-k l = l.buffer ≡ filled l.dest (sixteens l.count l.channels) l.initial.buffer l.k
