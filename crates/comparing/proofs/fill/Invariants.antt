-- `comparing::fill` meets its contract. The invariant: the text so far, and the turns from here on, are what is wanted. The measure is how many bytes are
-- left of both. Assumes nothing.
use Prim.Native.Nat.{◌+◌, ◌-◌}
use lib.ListN.{length}
use Rattle.comparing.specs.Call.{compare_of}
use Rattle.comparing.proofs.Filled.{Filling}
use Rattle.comparing.proofs.fill.Given as goal

abbrev pub invariant-loop-out : goal.invariant-loop-out
invariant-loop-out l = Filling l.left.bytes.now l.left.ends l.right.bytes.now l.right.ends (compare_of (length l.initial.out) l.fn.counts.agree l.fn.counts.differ l.left.ends l.right.ends l.left.bytes.now l.right.bytes.now) l.initial.out l.l l.r l.so_far.agree l.so_far.differ l.at l.out

abbrev pub decreases-loop-out : goal.decreases-loop-out
decreases-loop-out l = (length l.left.bytes.now - l.l) + (length l.right.bytes.now - l.r)
