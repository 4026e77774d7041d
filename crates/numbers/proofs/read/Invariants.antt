-- `numbers::read` meets its contract. The loop's invariant: n is the number of the bytes passed. Assumes nothing.
use mathlib.Core.Path.{◌≡◌}
use lib.ListN.{take}
use Rattle.numbers.specs.BigEndian.{be_of}
use Rattle.numbers.proofs.read.Given as goal

abbrev pub invariant-loop-byte : goal.invariant-loop-byte
invariant-loop-byte l = l.n ≡ be_of (take l.byte-index l.bytes)
