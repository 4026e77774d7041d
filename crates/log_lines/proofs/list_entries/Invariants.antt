-- `log_lines::list_entries` meets its contract. The measure is how many bytes of the part are unread. Assumes nothing.
use Prim.Native.Nat.{◌-◌}
use lib.ListN.{length}
use Rattle.log_lines.proofs.Going.{Going}
use Rattle.log_lines.proofs.list_entries.Given as goal

abbrev pub invariant-loop-taken : goal.invariant-loop-taken
invariant-loop-taken l = Going l.initial.places l.initial.state l.part l.initial.out l.places l.state l.taken l.at l.out

abbrev pub decreases-loop-taken : goal.decreases-loop-taken
decreases-loop-taken l = length l.part - l.taken
