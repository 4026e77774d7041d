-- `channels::low_bits` meets its contract. The invariant: the first i channels are written, and the others are still 0.
-- Assumes nothing.
use mathlib.Core.Path.{◌≡◌}
use Prim.Native.Nat.{◌-◌, ◌≤◌}
use Rattle.channels.specs.Channels.{channels_count, low_bits}
use Rattle.channels.proofs.Fill.{filling}
use Rattle.channels.proofs.low_bits.Given as goal

abbrev pub invariant-loop-i : goal.invariant-loop-i
invariant-loop-i l = (l.i ≤ channels_count) × (l.low ≡ filling (low_bits l.channels) l.initial.low 0 l.i)

abbrev pub decreases-loop-i : goal.decreases-loop-i
decreases-loop-i l = channels_count - l.i
