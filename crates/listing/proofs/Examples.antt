-- Every example of the table gives its texts, at the limit.
-- Assumes nothing.
use mathlib.Core.Path.{◌≡◌, refl}
use mathlib.Core.List.{map}
use Rattle.packets.specs.Listed.{listed}
use Rattle.crc.specs.Remainder.{remainder, remainder_from, after_byte, shifts, shift_bit}
use Rattle.reading.specs.Answer.{drops}
use Rattle.reading.specs.Reading.{limit, reading, reading_past, first, good_length, passes}
use Rattle.lines.specs.Digits.{hex_digit, decimal_within}
use Rattle.lines.specs.Lines.{frame_line, byte_line, crc_line, held_line, line, lines_of}
use Rattle.listing.specs.Numbering.{numbered_lines}
use Rattle.listing.specs.Whole.{whole_listing, whole_where}
use Rattle.listing.specs.Examples.{Example, examples}

pub examples_hold : map (λ (e : Example). whole_listing limit e.input) examples ≡ map (λ (e : Example). e.text) examples
unfolding listed remainder remainder_from after_byte shifts shift_bit drops reading reading_past first good_length passes hex_digit decimal_within frame_line byte_line crc_line held_line line lines_of
examples_hold = refl

pub where_holds : map (λ (e : Example). whole_where limit e.input) examples ≡ map (λ (e : Example). e.numbered) examples
unfolding listed remainder remainder_from after_byte shifts shift_bit drops reading reading_past first good_length passes hex_digit decimal_within frame_line byte_line crc_line held_line line lines_of numbered_lines
where_holds = refl
