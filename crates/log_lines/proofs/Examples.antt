-- Every example of the table gives its text.
-- Assumes nothing.
use mathlib.Core.Path.{◌≡◌, refl}
use mathlib.Core.List.{map}
use Rattle.packets.specs.Listed.{listed}
use Rattle.crc.specs.Remainder.{remainder, remainder_from, after_byte, shifts, shift_bit}
use Rattle.reading.specs.Reading.{passes}
use Rattle.groups.specs.Reading.{step, further, valued, final}
use Rattle.lines.specs.Digits.{hex_digit, decimal_within}
use Rattle.lines.specs.Lines.{frame_line}
use Rattle.kit_log.specs.Reading.{meaning, feed_number, fine, feed_frame, feed, takes, after, answered, read_from, finish}
use Rattle.log_reader.specs.Reader.{ending_of}
use Rattle.log_lines.specs.Text.{entry_line, entry_lines, refusal_line, ending_line, whole_text}
use Rattle.log_lines.specs.Examples.{Example, examples}

pub examples_hold : map (λ (e : Example). whole_text e.log) examples ≡ map (λ (e : Example). e.text) examples
unfolding listed remainder remainder_from after_byte shifts shift_bit passes step further valued final hex_digit decimal_within frame_line meaning feed_number fine feed_frame feed takes after answered read_from finish ending_of entry_line entry_lines refusal_line ending_line
examples_hold = refl
