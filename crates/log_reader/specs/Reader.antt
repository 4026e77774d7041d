-- What the public functions of a log's reader promise (RULES 16.8, 16.9).
-- Assumes nothing.
use Rattle.std.specs.Prelude.{◌≡◌, true, false, List, ℕ, ◌≤◌, ◌<◌, ◌+◌, length, take, Ok, Err, Result}
use Rattle.base.specs.Parts.{part}
use Rattle.refusals.specs.declared.Refusal.TheVariants.{BadState}
use Rattle.kit_log.specs.Reading.{State, number, frame, refused, ended, finish}
use Rattle.kit_log.specs.Call.{Said, more, gives, refuses, Call, call}
use Rattle.log_reader.specs.State.{state_of, is_state}
use Rattle.log_reader.specs.declared.Reader.{Reader}
use Rattle.log_reader.specs.declared.Place.{Place}
use Rattle.log_reader.specs.declared.Place.TheVariants.{InPiece, InHeld}
use Rattle.log_reader.specs.declared.Answer.{Answer}
use Rattle.log_reader.specs.declared.Answer.TheVariants.{More, Entry, Refused}
use Rattle.log_reader.specs.declared.Answered.{Answered}
use Rattle.log_reader.specs.declared.Closed.{Closed}
use Rattle.refusals.specs.declared.Refusal.{Refusal}

-- ---- A call

-- the bytes at a place, given the caller's piece and the places
abbrev pub bytes_at : Place → List ℕ → List ℕ → List ℕ
bytes_at (InPiece at n) piece p = part piece at n
bytes_at (InHeld n) piece p = take n p

unfoldable pub said_by : List ℕ → List ℕ → Answer → Said
said_by piece p More = more
said_by piece p (Entry t place) = gives (record { seconds = t; frame = bytes_at place piece p })
said_by piece p (Refused r) = refuses r

-- all that a call shows, given the places after it
abbrev pub shown_by : List ℕ → List ℕ → Answered → Call
shown_by piece p r = record { said = said_by piece p r.answer; taken = r.taken; state = state_of p r.reader }

-- a frame that stands whole in the piece is lent from there: its bytes are the last of those taken. Else fewer were taken than it has, and it stands at
-- the front of the places
abbrev pub Lies : List ℕ → List ℕ → ℕ → Place → Type 0
Lies piece p taken (InPiece at n) = (at + n ≡ taken) × (taken ≤ length piece)
Lies piece p taken (InHeld n) = (taken < n) × (n ≤ length p)

abbrev pub Placed : List ℕ → List ℕ → ℕ → Answer → Type 0
Placed piece p taken More = Unit {0}
Placed piece p taken (Entry t place) = Lies piece p taken place
Placed piece p taken (Refused r) = Unit {0}

-- a call on a state: what it shows is the definition's call, and leaves a state
pub record Runs (before : List ℕ) (st : Reader) (input after : List ℕ) (r : Answered) : Type 0 where
  pub shown : shown_by input after r ≡ call (state_of before st) input
  pub stands : is_state after r.reader ≡ true
  pub placed : Placed input after r.taken r.answer
  pub same : length after ≡ length before

-- any call: what is no state is refused, and nothing is changed
pub record Nexts (before : List ℕ) (st : Reader) (input after : List ℕ) (r : Answered) : Type 0 where
  pub refuses : is_state before st ≡ false → (r ≡ record { reader = st; taken = 0; answer = Refused BadState }) × (after ≡ before)
  pub runs : is_state before st ≡ true → Runs before st input after r

-- ---- The end

-- what was read is a log, or a refusal
abbrev pub Ending : Type 0
Ending = Result Unit Refusal

-- what is said where a reader has come to an end
unfoldable pub ending_of : State → Ending
ending_of (number want v w) = Ok tt
ending_of (frame t n h) = Ok tt
ending_of (refused r) = Err r
ending_of ended = Ok tt

pub record Finishes (p : List ℕ) (st : Reader) (r : Closed) : Type 0 where
  pub finished : state_of p r.reader ≡ finish (state_of p st)
  pub said : r.ending ≡ ending_of (finish (state_of p st))
  pub stands : is_state p r.reader ≡ true

pub record Closes (p : List ℕ) (st : Reader) (r : Closed) : Type 0 where
  pub refuses : is_state p st ≡ false → r ≡ record { reader = st; ending = Err BadState }
  pub finishes : is_state p st ≡ true → Finishes p st r
