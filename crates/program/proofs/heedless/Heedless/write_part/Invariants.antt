-- Each turn leaves less to write.
use Prim.Native.Nat.{◌-◌, ◌^◌, ◌≤◌, ◌<◌}
use lib.ListN.{length}
use Rattle.program.proofs.heedless.Heedless.write_part.Given as goal

abbrev pub invariant-loop-written : goal.invariant-loop-written
invariant-loop-written l = (l.written ≤ length l.bytes) × (length l.bytes < 2 ^ 64)

abbrev pub decreases-loop-written : goal.decreases-loop-written
decreases-loop-written l = length l.bytes - l.written
