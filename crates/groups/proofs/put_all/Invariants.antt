-- `groups::put_all` meets its contract. The invariant: with the groups that are left put behind those that are there, the buffer is what it should be.
-- Assumes nothing.
use mathlib.Core.Path.{◌≡◌}
use Prim.Native.Nat.{◌+◌, ◌≤◌}
use lib.ListN.{length}
use Rattle.base.specs.Parts.{pasted}
use Rattle.groups.specs.Groups.{groups}
use Rattle.groups.proofs.put_all.Given as goal

abbrev pub invariant-loop-left : goal.invariant-loop-left
invariant-loop-left l = (l.i + length (groups l.left) ≤ length l.out) × ((pasted l.out l.i (groups l.left) ≡ pasted l.initial.out l.at (groups l.n)) × (length l.out ≡ length l.initial.out))

abbrev pub decreases-loop-left : goal.decreases-loop-left
decreases-loop-left l = l.left
