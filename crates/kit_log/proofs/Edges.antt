-- Every edge of the table gives what it says.
-- Assumes nothing.
use mathlib.Core.Path.{◌≡◌, refl}
use mathlib.Core.List.{map}
use Rattle.packets.specs.Listed.{listed}
use Rattle.crc.specs.Remainder.{remainder, remainder_from, after_byte, shifts, shift_bit}
use Rattle.reading.specs.Reading.{passes}
use Rattle.groups.specs.Reading.{step, further, valued, final}
use Rattle.kit_log.specs.Reading.{meaning, feed_number, fine, feed_frame, feed, takes, after, answered, read_from, finish}
use Rattle.kit_log.specs.Edges.{shown, Edge, edges}

pub edges_hold : map (λ (e : Edge). shown e.input) edges ≡ map (λ (e : Edge). e.gives) edges
unfolding listed remainder remainder_from after_byte shifts shift_bit passes step further valued final meaning feed_number fine feed_frame feed takes after answered read_from finish
edges_hold = refl
