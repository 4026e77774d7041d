-- The saved form of the held bytes and of their position (RULES 9), over the limit m of a frame. The older form is of the held bytes alone: their count
-- in groups of seven bits, then those bytes. The form is the number 64, the position, and then the older form.
-- Assumes nothing.
use Rattle.std.specs.Prelude.{ℕ, ◌-◌, Bool, false, ◌&&◌, List, [], ◌++◌, leb, ltb, eqb, length, get_or, drop}
use Rattle.base.specs.Choice.{when◌then◌else◌}
use Rattle.groups.specs.Groups.{groups}
use Rattle.groups.specs.Reading.{NumberRead, unfinished, ends, malformed, read}
use Rattle.reading.specs.Positions.{greatest, is_within}

-- ---- The older form

unfoldable pub held_form : List ℕ → List ℕ
held_form held = groups (length held) ++ held

-- a start and an end that mark a part of m places, and fewer bytes than the limit
unfoldable pub is_savable : ℕ → ℕ → ℕ → Bool
is_savable m start end = leb start end && (leb end m && ltb (end - start) m)

-- it is accepted where a count below the limit stands at its front, and exactly that many bytes behind it
unfoldable pub is_counted : NumberRead → Bool
is_counted (unfinished value weight) = false
is_counted (ends count rest) = eqb (length rest) count
is_counted (malformed rest) = false

unfoldable pub is_held_form : ℕ → List ℕ → Bool
is_held_form m form = leb 1 m && is_counted (read (m - 1) form)

-- the number at the front of a string, and what stands behind it: 0 and nothing where there is no number
unfoldable pub number_at : NumberRead → ℕ
number_at (unfinished value weight) = 0
number_at (ends number rest) = number
number_at (malformed rest) = 0

unfoldable pub behind_number : NumberRead → List ℕ
behind_number (unfinished value weight) = []
behind_number (ends number rest) = rest
behind_number (malformed rest) = []

-- the held bytes of an older form that is accepted: what stands behind the count
abbrev pub held_bytes : ℕ → List ℕ → List ℕ
held_bytes m form = behind_number (read (m - 1) form)

-- ---- The form

-- the number that it begins with: at the limit 64 no older form does, since its count is below that
abbrev pub mark : ℕ
mark = 64

unfoldable pub saved_form : ℕ → List ℕ → List ℕ
saved_form position held = groups mark ++ (groups position ++ held_form held)

-- what can be saved: fewer bytes than the limit, and all of them can be numbered
unfoldable pub can_save : ℕ → ℕ → ℕ → ℕ → Bool
can_save m start end position = is_savable m start end && is_within position (end - start) 0

unfoldable pub is_marked : List ℕ → Bool
is_marked form = eqb (get_or form 0 0) mark

-- the position of a string, and its older form. A string that is not marked is the older form alone, at position 0
unfoldable pub position_in : List ℕ → ℕ
position_in form = when is_marked form then number_at (read greatest (drop 1 form)) else 0

unfoldable pub older_in : List ℕ → List ℕ
older_in form = when is_marked form then behind_number (read greatest (drop 1 form)) else form

-- a form is accepted where its older form is, and all of its held bytes can be numbered. (No older form is empty, so none with a malformed position is)
unfoldable pub is_form : ℕ → List ℕ → Bool
is_form m form = is_held_form m (older_in form) && is_within (position_in form) (length (held_bytes m (older_in form))) 0

-- the held bytes of a form that is accepted
abbrev pub held_of : ℕ → List ℕ → List ℕ
held_of m form = held_bytes m (older_in form)
