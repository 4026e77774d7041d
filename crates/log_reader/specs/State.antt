-- What the code's reader stands for, over the places that hold a frame's bytes (RULES 16.9).
-- Assumes nothing.
use Rattle.std.specs.Prelude.{Bool, true, ◌&&◌, ◌||◌, List, ℕ, ◌^◌, leb, ltb, eqb, length, take}
use Rattle.base.specs.Choice.{when◌then◌else◌}
use Rattle.refusals.specs.Row.{number_of}
use Rattle.refusals.specs.declared.Refusal.{Refusal}
use Rattle.reading.specs.Reading.{limit}
use Rattle.kit_log.specs.Reading.{Want, version, seconds, size, State, number, frame, refused, ended, fine}
use Rattle.log_reader.specs.declared.Wanted.{Wanted}
use Rattle.log_reader.specs.declared.Wanted.TheVariants.{Version, Seconds, Size}
use Rattle.log_reader.specs.declared.Reader.{Reader}
use Rattle.log_reader.specs.declared.Reader.TheVariants.{Number, Frame, Refused, Ended}

abbrev pub want_of : Wanted → Want
want_of Version = version
want_of Seconds = seconds
want_of (Size t) = size t

-- what the next group is worth, where that many have come
abbrev pub weight_of : ℕ → ℕ
weight_of groups = 128 ^ groups

-- the bytes of a frame that have come are the first of the places
abbrev pub state_of : List ℕ → Reader → State
state_of p (Number wanted v g) = number (want_of wanted) v (weight_of g)
state_of p (Frame t n k) = frame t n (take k p)
state_of p (Refused r) = refused r
state_of p Ended = ended

-- ---- Which readers are states: just those that some log leads to (`led_to` of proofs/Reached)

-- a number that is begun and can go on: at most four of its groups have come
abbrev pub can_go_on : ℕ → ℕ → Bool
can_go_on v g = leb g 4 && ltb v (weight_of g)

-- the bytes held, if any, begin a valid frame of n
abbrev pub held_fine : ℕ → List ℕ → ℕ → Bool
held_fine n p k = when eqb k 0 then true else fine n (take k p)

-- a log is refused with 9 or 10 and nothing else
unfoldable pub of_logs : Refusal → Bool
of_logs r = eqb (number_of r) 9 || eqb (number_of r) 10

abbrev pub standing : List ℕ → Reader → Bool
standing p (Number wanted v g) = can_go_on v g
standing p (Frame t n k) = (leb 4 n && leb n limit) && (ltb k n && held_fine n p k)
standing p (Refused r) = of_logs r
standing p Ended = true

-- .. over places that are enough
unfoldable pub is_state : List ℕ → Reader → Bool
is_state p st = leb limit (length p) && standing p st
