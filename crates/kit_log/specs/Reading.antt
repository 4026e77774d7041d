-- What a reader makes of a log, byte by byte (RULES 16.3 to 16.7). The reading of a string is the fold of this over it, so it can't depend on cuts.
-- Assumes nothing.
use Rattle.std.specs.Prelude.{ℕ, ◌+◌, Bool, true, false, ◌&&◌, not, List, [], ◌∷◌, ◌++◌, leb, ltb, eqb, length, get_or}
use Rattle.base.specs.Choice.{when◌then◌else◌}
use Rattle.packets.specs.Listed.{listed}
use Rattle.refusals.specs.declared.Refusal.{Refusal}
use Rattle.refusals.specs.declared.Refusal.TheVariants.{InvalidLog, InvalidFrame}
use Rattle.reading.specs.Reading.{limit, passes}
use Rattle.groups.specs.Reading.{step}
use Rattle.groups.specs.declared.Step.TheVariants.{GoesOn, Done, Malformed}
use Rattle.kit_log.specs.Entry.{Entry, greatest}

-- ---- Where a reader stands

-- which number is read: the first; the seconds of an entry; the length of its frame, its seconds being known
pub data Want : Type 0 where
  version seconds : Want
  size : (seconds : ℕ) → Want

pub data State : Type 0 where
  -- in a number, with its value so far and what its next group is worth
  number : Want → (value weight : ℕ) → State
  -- in a frame of so many bytes, with those that have come
  frame : (seconds size : ℕ) (held : List ℕ) → State
  -- refused, and so until a reset
  refused : Refusal → State
  -- the caller has said that the log ends, and it was one
  ended : State

-- before the first byte
abbrev pub start : State
start = number version 0 1

-- between entries: here a log may end
abbrev pub boundary : State
boundary = number seconds 0 1

-- ---- One byte

-- what one byte makes of a state: another state, or a whole entry and the boundary behind it
pub data Fed : Type 0 where
  on : State → Fed
  entry : Entry → Fed

-- a number that is well formed, by what it means: the first one is 1, and a length is that of a frame
unfoldable pub meaning : Want → ℕ → State
meaning version n = when eqb n 1 then boundary else refused InvalidLog
meaning seconds n = number (size n) 0 1
meaning (size s) n = when leb 4 n && leb n limit then frame s n [] else refused InvalidFrame

-- a number is judged at its last byte or its fifth, form first
unfoldable pub feed_number : Want → ℕ → ℕ → ℕ → State
feed_number want value weight b =
    elim (step greatest value weight b) [ GoesOn v w ↦ number want v w | Done n ↦ meaning want n | Malformed ↦ refused InvalidLog ]

-- a frame is judged at the first byte that no valid frame of its length has there: the bytes h, one at least, begin some valid frame of n bytes. The
-- address is listed, the second byte counts those behind it, and the last is the check byte (`begins_fine` and `fine_begins` of proofs/Frames)
unfoldable pub fine : ℕ → List ℕ → Bool
fine n h =
    when not (listed (get_or h 0 0)) then false else
    when ltb (length h) 2 then true else
    when not (eqb (get_or h 1 0 + 2) n) then false else
    when ltb (length h) n then true else
    passes h

unfoldable pub feed_frame : ℕ → ℕ → List ℕ → Fed
feed_frame s n h =
    when not (fine n h) then on (refused InvalidFrame) else
    when ltb (length h) n then on (frame s n h) else
    entry (record { seconds = s; frame = h })

-- a refusal stays; a byte behind the end is refused
unfoldable pub feed : State → ℕ → Fed
feed (number want v w) b = on (feed_number want v w b)
feed (frame s n h) b = feed_frame s n (h ++ b ∷ [])
feed (refused r) b = on (refused r)
feed ended b = on (refused InvalidLog)

-- how many bytes it takes: a reader that has refused or ended takes none
unfoldable pub takes : State → ℕ
takes (number want v w) = 1
takes (frame s n h) = 1
takes (refused r) = 0
takes ended = 0

unfoldable pub after : Fed → State
after (on st) = st
after (entry e) = boundary

unfoldable pub answered : Fed → List Entry
answered (on st) = []
answered (entry e) = e ∷ []

-- ---- A string

-- the entries, where the reader stands behind them, and how many bytes it has taken: of a refusal, up to and with the byte at which it was judged
pub record Reading : Type 0 where
  pub entries : List Entry
  pub state : State
  pub taken : ℕ

-- entries for so many bytes, and then a reading
abbrev pub before : List Entry → ℕ → Reading → Reading
before es n r = record { entries = es ++ r.entries; state = r.state; taken = n + r.taken }

unfoldable pub read_from : State → List ℕ → Reading
read_from st [] = record { entries = []; state = st; taken = 0 }
read_from st (b ∷ s) = before (answered (feed st b)) (takes st) (read_from (after (feed st b)) s)

abbrev pub reading : List ℕ → Reading
reading s = read_from start s

-- ---- The end

-- a log may end between entries, and nowhere else
unfoldable pub finish : State → State
finish (number version v w) = refused InvalidLog
finish (number seconds v w) = when eqb w 1 then ended else refused InvalidLog
finish (number (size s) v w) = refused InvalidLog
finish (frame s n h) = refused InvalidLog
finish (refused r) = refused r
finish ended = ended
