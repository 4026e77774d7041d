-- What the functions inside promise.
-- Assumes nothing.
use Rattle.std.specs.Prelude.{◌≡◌, Bool, true, List, [], ℕ, ◌≤◌, ◌+◌, ◌-◌, eqb, length, get_or, take, drop, Ok, Err}
use Rattle.base.specs.Choice.{when◌then◌else◌}
use Rattle.refusals.specs.declared.Refusal.TheVariants.{InvalidLog}
use Rattle.packets.specs.Listed.{listed}
use Rattle.reading.specs.Reading.{limit}
use Rattle.kit_log.specs.Reading.{State, frame, Fed, on, entry, meaning, feed_number, feed_frame, feed}
use Rattle.kit_log.specs.Call.{later, call}
use Rattle.log_reader.specs.State.{want_of, weight_of, state_of, is_state}
use Rattle.log_reader.specs.Reader.{shown_by, Placed}
use Rattle.log_reader.specs.declared.Wanted.{Wanted}
use Rattle.log_reader.specs.declared.Wanted.TheVariants.{Version, Seconds, Size}
use Rattle.log_reader.specs.declared.Reader.{Reader}
use Rattle.log_reader.specs.declared.Reader.TheVariants.{Number, Frame, Refused, Ended}
use Rattle.log_reader.specs.declared.Answer.{Answer}
use Rattle.log_reader.specs.declared.Answer.TheVariants as answer
use Rattle.log_reader.specs.declared.Answered.{Answered}
use Rattle.log_reader.specs.Reader.{Ending}
use Rattle.log_reader.specs.declared.Turn.{Turn}
use Rattle.log_reader.specs.declared.Turn.TheVariants as turn

-- ---- One byte

-- r, over any places that are enough, is a state that stands for st
pub record Is (r : Reader) (st : State) : Type 0 where
  pub stands_for : (p : List ℕ) → limit ≤ length p → state_of p r ≡ st
  pub is_one : (p : List ℕ) → limit ≤ length p → is_state p r ≡ true

abbrev pub Means : Wanted → ℕ → Reader → Type 0
Means wanted n r = Is r (meaning (want_of wanted) n)

abbrev pub FedNumber : Wanted → ℕ → ℕ → ℕ → Reader → Type 0
FedNumber wanted v g b r = Is r (feed_number (want_of wanted) v (weight_of g) b)

-- whether a byte may come behind that many of a frame of n, the last byte aside
abbrev pub may_follow : ℕ → ℕ → ℕ → Bool
may_follow n k b = when eqb k 0 then listed b else when eqb k 1 then eqb (b + 2) n else true

-- the places hold a whole frame of n bytes, of which all but the check byte are known to be good
pub record LastByte (p : List ℕ) (n b : ℕ) : Type 0 where
  pub low : 4 ≤ n
  pub high : n ≤ limit
  pub room : limit ≤ length p
  pub last : get_or p (n - 1) 0 ≡ b
  pub address : listed (get_or p 0 0) ≡ true
  pub second : get_or p 1 0 + 2 ≡ n

abbrev pub fed_of : List ℕ → Turn → Fed
fed_of p (turn.On st) = on (state_of p st)
fed_of p (turn.Entry t n) = entry (record { seconds = t; frame = take n p })

-- and the state behind it is one
abbrev pub turn_stands : List ℕ → Turn → Type 0
turn_stands p (turn.On st) = is_state p st ≡ true
turn_stands p (turn.Entry t n) = n ≤ length p

-- a turn is what one byte makes of a state
pub record TurnIs (before : List ℕ) (f : Fed) (after : List ℕ) (r : Turn) : Type 0 where
  pub fed : fed_of after r ≡ f
  pub stands : turn_stands after r
  pub same : length after ≡ length before

abbrev pub Turns : List ℕ → State → ℕ → List ℕ → Turn → Type 0
Turns before st b after r = TurnIs before (feed st b) after r

-- .. of a frame, by the bytes that have come with this one
abbrev pub FedFrame : List ℕ → ℕ → ℕ → List ℕ → List ℕ → Turn → Type 0
FedFrame before t n h after r = TurnIs before (feed_frame t n h) after r

-- ---- A call

-- what is said where the piece ends
abbrev pub answer_at : Reader → Answer
answer_at (Number wanted v g) = answer.More
answer_at (Frame t n k) = answer.More
answer_at (Refused r) = answer.Refused r
answer_at Ended = answer.More

-- what is said of a frame of n bytes that stands whole in the piece from place i on, over any places
pub record InOne (t n : ℕ) (piece : List ℕ) (i : ℕ) (r : Answered) : Type 0 where
  pub shown : (p : List ℕ) → shown_by piece p r ≡ later i (call (frame t n []) (drop i piece))
  pub stands : (p : List ℕ) → limit ≤ length p → is_state p r.reader ≡ true
  pub placed : (p : List ℕ) → Placed piece p r.taken r.answer

-- ---- The end

abbrev pub end_number : Wanted → ℕ → Reader
end_number Version g = Refused InvalidLog
end_number Seconds g = when eqb g 0 then Ended else Refused InvalidLog
end_number (Size t) g = Refused InvalidLog

abbrev pub end_reader : Reader → Reader
end_reader (Number wanted v g) = end_number wanted g
end_reader (Frame t n k) = Refused InvalidLog
end_reader (Refused r) = Refused r
end_reader Ended = Ended

abbrev pub ending_at : Reader → Ending
ending_at (Number wanted v g) = (Ok tt)
ending_at (Frame t n k) = (Ok tt)
ending_at (Refused r) = Err r
ending_at Ended = (Ok tt)
