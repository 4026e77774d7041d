-- `numbers::write` meets its contract. The loop's invariant: the low bytes are written behind the place that is next, and `rest` is what they leave of n. Assumes nothing.
use Prim.Native.Nat.{◌+◌, ◌-◌, ◌/◌, ◌^◌, ◌≤◌}
use mathlib.Core.Path.{◌≡◌}
use lib.ListN.{length}
use Rattle.numbers.specs.BigEndian.{bytes_of}
use Rattle.base.specs.Parts.{pasted}
use Rattle.numbers.proofs.write.Given as goal

abbrev pub invariant-loop-i : goal.invariant-loop-i
invariant-loop-i l = (l.i ≤ l.width) × (l.rest ≡ l.n / 256 ^ (l.width - l.i)) × (l.out ≡ pasted l.initial.out (l.at + l.i) (bytes_of (l.width - l.i) l.n)) × (length l.out ≡ length l.initial.out)
