-- `crc::gather::first_bytes` meets its contract. The loop's invariant: the word is that of the bytes passed.
-- Assumes nothing.
use mathlib.Core.Path.{◌≡◌}
use Prim.Native.Nat.{◌≤◌}
use lib.ListN.{take}
use Rattle.numbers.specs.BigEndian.{be_of}
use Rattle.crc.proofs.gather.first_bytes.Given as goal

abbrev pub invariant-loop-i : goal.invariant-loop-i
invariant-loop-i l = (l.i ≤ l.n) × (l.w ≡ be_of (take l.i l.s))
