-- What is seen of a call: all that its promise leaves one of. There is one exception (RULES 15.3): the bytes beside the held ones, on which nothing
-- depends.
-- Assumes nothing.
use Rattle.std.specs.Prelude.{Bool, List, [], ℕ, take}
use Rattle.base.specs.Choice.{when◌then◌else◌}
use Rattle.log_reader.specs.declared.Reader.{Reader}
use Rattle.log_reader.specs.declared.Reader.TheVariants as reader
use Rattle.log_reader.specs.declared.Place.TheVariants.{InPiece, InHeld}
use Rattle.log_reader.specs.declared.Answer.{Answer}
use Rattle.log_reader.specs.declared.Answer.TheVariants.{More, Entry, Refused}
use Rattle.log_reader.specs.declared.Answered.{Answered}

-- the bytes that a reader holds
abbrev pub held_by : List ℕ → Reader → List ℕ
held_by p (reader.Number wanted v g) = []
held_by p (reader.Frame t n k) = take k p
held_by p (reader.Refused r) = []
held_by p reader.Ended = []

-- the bytes of an entry's frame, where they stand in the places
abbrev pub frame_among : List ℕ → Answer → List ℕ
frame_among p More = []
frame_among p (Entry t (InPiece at n)) = []
frame_among p (Entry t (InHeld n)) = take n p
frame_among p (Refused r) = []

pub record Seen : Type 0 where
  pub answered : Answered
  pub held : List ℕ
  pub frame : List ℕ
  -- of what was no state, all places
  pub refused : List ℕ

-- given whether it was a state, and the places after the call
abbrev pub seen : Bool → List ℕ → Answered → Seen
seen good p r = record { answered = r; held = held_by p r.reader; frame = frame_among p r.answer; refused = when good then [] else p }
