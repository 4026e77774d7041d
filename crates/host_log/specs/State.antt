-- The host's state of a log's reader as bytes (RULES 16.12): a head of eleven, then as many places as the limit. Only here it is said where a field stands.
-- Assumes nothing.
use Rattle.std.specs.Prelude.{ℕ, ◌+◌, ◌%◌, Bool, ◌&&◌, List, ◌∷◌, ◌++◌, eqb, leb, length, get_or, drop}
use Rattle.base.specs.Choice.{when◌then◌else◌}
use Rattle.base.specs.Parts.{part}
use Rattle.refusals.specs.Row.{number_of}
use Rattle.refusals.specs.declared.Refusal.{Refusal}
use Rattle.refusals.specs.declared.Refusal.TheVariants.{InvalidLog, InvalidFrame}
use Rattle.numbers.specs.BigEndian as be
use Rattle.numbers.specs.BigEndian.{be_of}
use Rattle.reading.specs.Reading.{limit}
use Rattle.log_reader.specs.State as reader
use Rattle.log_reader.specs.declared.Wanted.{Wanted}
use Rattle.log_reader.specs.declared.Wanted.TheVariants.{Version, Seconds, Size}
use Rattle.log_reader.specs.declared.Reader.{Reader}
use Rattle.log_reader.specs.declared.Reader.TheVariants.{Number, Frame, Refused, Ended}
use Rattle.host_log.specs.declared.head.Head.{Head}

-- where the places begin
abbrev pub places_at : ℕ
places_at = 11

abbrev pub size : ℕ
size = places_at + limit

-- ---- The head

-- three bytes, and two numbers of four, highest byte first
unfoldable pub bytes_of : Head → List ℕ
bytes_of h = h.stage ∷ h.count ∷ h.size ∷ be.bytes_of 4 h.value ++ be.bytes_of 4 h.seconds

unfoldable pub head_in : List ℕ → Head
head_in state = record { stage = get_or state 0 0; count = get_or state 1 0; size = get_or state 2 0; value = be_of (part state 3 4); seconds = be_of (part state 7 4) }

-- what a stage does not use is 0
abbrev pub bare : ℕ → Head
bare stage = record { stage = stage; count = 0; size = 0; value = 0; seconds = 0 }

abbrev pub head_number : Wanted → ℕ → ℕ → Head
head_number Version v g = record { stage = 0; count = g; size = 0; value = v; seconds = 0 }
head_number Seconds v g = record { stage = 1; count = g; size = 0; value = v; seconds = 0 }
head_number (Size t) v g = record { stage = 2; count = g; size = 0; value = v; seconds = t }

abbrev pub stage_of : Refusal → ℕ
stage_of r = when eqb (number_of r) 9 then 5 else 6

abbrev pub head_of : Reader → Head
head_of (Number wanted v g) = head_number wanted v g
head_of (Frame t n k) = record { stage = 3; count = k % 256; size = n % 256; value = 0; seconds = t }
head_of (Refused r) = bare (stage_of r)
head_of Ended = bare 4

-- .. and is not looked at
abbrev pub reader_of : Head → Reader
reader_of h =
    when eqb h.stage 0 then Number Version h.value h.count else
    when eqb h.stage 1 then Number Seconds h.value h.count else
    when eqb h.stage 2 then Number (Size h.seconds) h.value h.count else
    when eqb h.stage 3 then Frame h.seconds h.size h.count else
    when eqb h.stage 4 then Ended else
    when eqb h.stage 5 then Refused InvalidLog else Refused InvalidFrame

-- ---- The state

abbrev pub reader_in : List ℕ → Reader
reader_in state = reader_of (head_in state)

abbrev pub places_in : List ℕ → List ℕ
places_in state = drop places_at state

abbrev pub state_of : Reader → List ℕ → List ℕ
state_of r places = bytes_of (head_of r) ++ places

unfoldable pub has_form : List ℕ → Bool
has_form state = eqb (length state) size && leb (get_or state 0 0) 6

-- one that some log leads to
unfoldable pub is_state : List ℕ → Bool
is_state state = has_form state && reader.is_state (places_in state) (reader_in state)
