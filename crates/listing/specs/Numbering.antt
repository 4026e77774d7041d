-- What stands before the lines (RULES 13): nothing, or the position where each answer began (RULES 18), and a space. All that follows goes by the
-- numbering, so that one loop and one proof are of both programs.
-- Assumes nothing.
use Rattle.std.specs.Prelude.{Option, None, Some, ℕ, ◌+◌, ◌≤◌, Bool, true, List, [], ◌∷◌, ◌++◌}
use Rattle.reading.specs.Answer.{Answer}
use Rattle.reading.specs.Positions.{greatest, behind, numbered, is_within}
use Rattle.lines.specs.Lines.{line, lines_of, held_line, leading, longest, longest_position}
use Rattle.lines.specs.Put.{put_within}

-- the position where the next answer begins, where lines have one
abbrev pub Numbering : Type 0
Numbering = Option ℕ

abbrev pub lead : Numbering → List ℕ
lead None = []
lead (Some p) = leading p

-- behind some answers the position is that where the next begins
abbrev pub past : Numbering → List Answer → Numbering
past None given = None
past (Some p) given = Some (behind p given)

-- the lines of some answers: plain, or each with its position
unfoldable pub numbered_lines : List (ℕ × Answer) → List ℕ
numbered_lines [] = []
numbered_lines ((p, a) ∷ more) = leading p ++ line a ++ numbered_lines more

abbrev pub text_of : Numbering → List Answer → List ℕ
text_of None given = lines_of given
text_of (Some p) given = numbered_lines (numbered p given)

-- the last line, where the input has ended
abbrev pub last_line : Numbering → ℕ → List ℕ
last_line n held = lead n ++ held_line held

-- no line is longer
abbrev pub room_for : Numbering → ℕ
room_for None = longest
room_for (Some p) = longest_position + longest

-- the last line at the front of a buffer: how many bytes are written, none where there is no room for the longest, and the buffer
abbrev pub last_line_of : Numbering → ℕ → List ℕ → ℕ × List ℕ
last_line_of n held = put_within (room_for n) (last_line n held) 0

-- all bytes that are held and offered can be numbered, where that is asked
abbrev pub is_countable : Numbering → ℕ → ℕ → Bool
is_countable None held input = true
is_countable (Some p) held input = is_within p held input

-- that many bytes further on; and that there are numbers as far as that, once some were held and taken, and some of these are left
abbrev pub moved_on : Numbering → ℕ → Numbering
moved_on None dropped = None
moved_on (Some p) dropped = Some (p + dropped)

abbrev pub Reaches : Numbering → ℕ → ℕ → ℕ → Type 0
Reaches None held taken left = Unit {0}
Reaches (Some p) held taken left = (p + held + taken ≤ greatest) × (left ≤ held + taken)
