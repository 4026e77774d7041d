-- `crc::gather::by_eights` meets its contract. The loop's invariant: the word has the check byte of the bytes passed, and eights are left. The measure is
-- what is left of the length. Assumes nothing.
use mathlib.Core.Path.{◌≡◌}
use Prim.Native.Nat.{◌-◌, ◌%◌, ◌≤◌}
use lib.ListN.{take}
use Rattle.crc.specs.Remainder.{remainder}
use Rattle.crc.specs.Word.{word_check}
use Rattle.crc.proofs.gather.by_eights.Given as goal

abbrev pub invariant-loop-i : goal.invariant-loop-i
invariant-loop-i l = (l.i ≤ l.n) × (((l.n - l.i) % 8 ≡ 0) × (word_check l.w ≡ remainder (take l.i l.s)))

abbrev pub decreases-loop-i : goal.decreases-loop-i
decreases-loop-i l = l.n - l.i
