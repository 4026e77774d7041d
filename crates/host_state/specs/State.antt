-- The host's state as bytes (RULES 14.1): start, end, as many places as the limit, then the position, eight bytes, highest first. Only here it is said
-- where these stand, and how many bytes that is.
-- Assumes nothing.
use Rattle.std.specs.Prelude.{ℕ, ◌+◌, Bool, ◌&&◌, List, ◌∷◌, ◌++◌, eqb, length, get_or}
use Rattle.base.specs.Parts.{part}
use Rattle.numbers.specs.BigEndian.{be_of, bytes_of}
use Rattle.reading.specs.Reading.{limit}
use Rattle.stream.specs.Places.{held_in}
use Rattle.stream.specs.Step.{is_span}

-- where the places begin, and where the position does
abbrev pub places_at : ℕ
places_at = 2

abbrev pub position_at : ℕ
position_at = places_at + limit

abbrev pub size : ℕ
size = position_at + 8

abbrev pub state_of : ℕ → ℕ → List ℕ → ℕ → List ℕ
state_of start end places position = start ∷ end ∷ (places ++ bytes_of 8 position)

abbrev pub start_in : List ℕ → ℕ
start_in state = get_or state 0 0

abbrev pub end_in : List ℕ → ℕ
end_in state = get_or state 1 0

abbrev pub places_in : List ℕ → List ℕ
places_in state = part state places_at limit

abbrev pub position_in : List ℕ → ℕ
position_in state = be_of (part state position_at 8)

abbrev pub held_by : List ℕ → List ℕ
held_by state = held_in (places_in state) (start_in state) (end_in state)

abbrev pub has_size : List ℕ → Bool
has_size state = eqb (length state) size

-- a valid state: its start and its end mark a part of its places, wherever it stands
unfoldable pub is_state : List ℕ → Bool
is_state state = has_size state && is_span limit (start_in state) (end_in state)
