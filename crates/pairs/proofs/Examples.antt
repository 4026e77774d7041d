-- Every example of the table gives its text, at the limit.
-- Assumes nothing.
use mathlib.Core.Path.{◌≡◌, refl}
use mathlib.Core.List.{map}
use Rattle.base.specs.Same.{same_bytes}
use Rattle.packets.specs.Listed.{listed}
use Rattle.crc.specs.Remainder.{remainder, remainder_from, after_byte, shifts, shift_bit}
use Rattle.reading.specs.Answer.{drops, row}
use Rattle.reading.specs.Reading.{limit, reading, reading_past, first, good_length, passes}
use Rattle.lines.specs.Digits.{hex_digit, decimal_within}
use Rattle.lines.specs.Lines.{frame_line, byte_line, crc_line, held_line, line}
use Rattle.pairs.specs.Pairs.{pairs_of, side_row, agreeing, differing}
use Rattle.pairs.specs.Comparison.{side_text, beside, place_line, lines_from, tail_line, last_line, text_from, comparison}
use Rattle.pairs.specs.Examples.{Example, examples}

pub examples_hold : map (λ (e : Example). comparison limit e.left e.right) examples ≡ map (λ (e : Example). e.text) examples
unfolding same_bytes listed remainder remainder_from after_byte shifts shift_bit drops row reading reading_past first good_length passes hex_digit decimal_within frame_line byte_line crc_line held_line line pairs_of side_row agreeing differing side_text beside place_line lines_from tail_line last_line text_from
examples_hold = refl
