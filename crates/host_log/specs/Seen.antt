-- What is seen of a call over the host's state: all that its promise leaves one of. The exception is the reader's (RULES 15.3): the bytes beside the held
-- ones.
-- Assumes nothing.
use Rattle.std.specs.Prelude.{Bool, List, [], ℕ, eqb, get_or, take}
use Rattle.base.specs.Choice.{when◌then◌else◌}
use Rattle.base.specs.Parts.{part}
use Rattle.host_answer.specs.Seen.{unpacked}
use Rattle.log_reader.specs.Seen.{held_by, frame_among}
use Rattle.host_log.specs.declared.Replied.{Replied}
use Rattle.host_log.specs.State.{places_at, reader_in, places_in}

pub record Seen : Type 0 where
  pub replied : Replied
  pub head : List ℕ
  pub held : List ℕ
  -- the bytes of an entry's frame, where they stand in the state
  pub frame : List ℕ
  -- of what was no state, all of it
  pub refused : List ℕ

-- given whether it was a state, and the bytes after the call
abbrev pub seen : Bool → List ℕ → Replied → Seen
seen good after r = record {
  replied = r;
  head = take places_at after;
  held = held_by (places_in after) (reader_in after);
  frame = frame_among (places_in after) r.answer;
  refused = when good then [] else after;
}

-- ---- Of an entry of the host's, by its eight bytes

-- the bytes of a frame in the state
unfoldable pub frame_by : ℕ → List ℕ → List ℕ
frame_by r after = let answer = unpacked 8 r in when eqb (get_or answer 2 0) 1 then part after (get_or answer 3 0) (get_or answer 4 0) else []

pub record SeenCall : Type 0 where
  pub answer : ℕ
  -- in the number that was lent
  pub seconds : ℕ
  pub head : List ℕ
  pub held : List ℕ
  pub frame : List ℕ
  pub refused : List ℕ

abbrev pub seen_call : Bool → List ℕ → ℕ → ℕ → SeenCall
seen_call good after seconds r = record {
  answer = r;
  seconds = seconds;
  head = take places_at after;
  held = held_by (places_in after) (reader_in after);
  frame = frame_by r after;
  refused = when good then [] else after;
}
