-- What the log's entries answer, in eight bytes (RULES 16.12).
-- Assumes nothing.
use Rattle.std.specs.Prelude.{ℕ, ◌≡◌, List}
use Rattle.refusals.specs.Row.{row_of}
use Rattle.host_answer.specs.declared.answer.HostAnswer.{HostAnswer}
use Rattle.host_answer.specs.Answer.{packed, answer_number, answer_place, answer_carried, answer_row}
use Rattle.host_answer.specs.Reply.{more_number}
use Rattle.log_reader.specs.declared.Place.{Place}
use Rattle.log_reader.specs.declared.Place.TheVariants.{InPiece, InHeld}
use Rattle.log_reader.specs.declared.Answer.{Answer}
use Rattle.log_reader.specs.declared.Answer.TheVariants.{More, Entry, Refused}
use Rattle.log_reader.specs.Reader.{Ending}
use Rattle.host_log.specs.State.{places_at}
use Rattle.host_log.specs.Calls.{StateSteps, StateEnds, ending_row}
use Rattle.host_log.specs.declared.Replied.{Replied}

-- a frame in the places is known by where these stand in the state
abbrev pub answer_frame : ℕ → Place → HostAnswer
answer_frame taken (InPiece at n) = answer_place taken 0 at n
answer_frame taken (InHeld n) = answer_place taken 1 places_at n

unfoldable pub answer_of : ℕ → Answer → HostAnswer
answer_of taken More = answer_number more_number taken 0 0
answer_of taken (Entry t place) = answer_frame taken place
answer_of taken (Refused r) = answer_carried taken (row_of r)

abbrev pub answer_log : Replied → HostAnswer
answer_log r = answer_of r.taken r.answer

-- the number that the host lends for an entry's seconds
abbrev pub seconds_by : Answer → ℕ → ℕ
seconds_by More before = before
seconds_by (Entry t place) before = t
seconds_by (Refused r) before = before

-- the call is the reader's over the state, and the number is what it says
pub record Calls (before input : List ℕ) (lent : ℕ) (after : List ℕ) (given r : ℕ) : Type 0 where
  pub replied : Replied
  pub steps : StateSteps before input after replied
  pub packs : r ≡ packed (answer_log replied)
  pub gives : given ≡ seconds_by replied.answer lent

pub record EndCalls (before after : List ℕ) (r : ℕ) : Type 0 where
  pub ending : Ending
  pub ends : StateEnds before after ending
  pub packs : r ≡ packed (answer_row (ending_row ending))
