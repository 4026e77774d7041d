-- What the listing of a part of a log shows, and that it is the reading's.
-- Assumes nothing.
use Rattle.std.specs.Prelude.{ℕ, ◌+◌, ◌*◌, ◌≤◌, ◌≡◌, Bool, true, false, List, ltb, length, Result, Ok, Err}
use Rattle.base.specs.Choice.{when◌then◌else◌}
use Rattle.base.specs.Parts.{pasted}
use Rattle.refusals.specs.declared.Refusal.{Refusal}
use Rattle.refusals.specs.declared.Refusal.TheVariants.{BufferOverflow, BadState}
use Rattle.lines.specs.Put.{put_within}
use Rattle.kit_log.specs.Reading.{State, read_from}
use Rattle.kit_log.specs.Call as call
use Rattle.kit_log.specs.Call.{Said, more, gives, said_at, given}
use Rattle.log_reader.specs.State.{state_of, is_state}
use Rattle.log_reader.specs.Reader.{said_by, Nexts}
use Rattle.log_reader.specs.declared.Reader.{Reader}
use Rattle.log_reader.specs.declared.Answer.{Answer}
use Rattle.log_reader.specs.declared.Answer.TheVariants as answer
use Rattle.log_lines.specs.Text.{entry_lines, longest_entry}
use Rattle.log_lines.specs.declared.Turn.{Turn}
use Rattle.log_lines.specs.declared.Listed.{Listed}

-- why a part ended: all of it is listed, or the refusal
abbrev pub Status : Type 0
Status = Result Unit Refusal

-- ---- A call

abbrev pub gave : Answer → Bool
gave answer.More = false
gave (answer.Entry t place) = true
gave (answer.Refused r) = false

abbrev pub status_by : Answer → Status
status_by answer.More = Ok tt
status_by (answer.Entry t place) = Ok tt
status_by (answer.Refused r) = Err r

-- .. and the line of its entry, if any, where there is room for the longest
pub record Turns (before : List ℕ) (st : Reader) (input out : List ℕ) (at : ℕ) (places outAfter : List ℕ) (r : Turn) : Type 0 where
  pub nexts : Nexts before st input places r.answered
  pub puts : (r.at, outAfter) ≡ put_within longest_entry (entry_lines (given (said_by input places r.answered.answer))) at out
  pub short : r.at ≤ at + longest_entry

-- ---- A part

-- what is said where a part ends
abbrev pub status_said : Said → Status
status_said more = Ok tt
status_said (gives e) = Ok tt
status_said (call.refuses r) = Err r

pub record Shown : Type 0 where
  pub state : State
  pub written : ℕ
  pub status : Status
  pub buffer : List ℕ

abbrev pub shown_of : List ℕ → List ℕ → Listed → Shown
shown_of places out r = record { state = state_of places r.reader; written = r.written; status = r.status; buffer = out }

-- nothing is changed
abbrev pub refuses : Refusal → State → List ℕ → Shown
refuses r st out = record { state = st; written = 0; status = Err r; buffer = out }

-- the lines of the part's entries stand at the front of the buffer
abbrev pub lists : State → List ℕ → List ℕ → Shown
lists st part out =
    let r = read_from st part in
    let text = entry_lines r.entries in
    record { state = r.state; written = length text; status = status_said (said_at r.state); buffer = pasted out 0 text }

-- 27 bytes for each byte of the part: each entry takes one at least
abbrev pub is_short : List ℕ → List ℕ → Bool
is_short part out = ltb (length out) (longest_entry * length part)

unfoldable pub list_of : Bool → State → List ℕ → List ℕ → Shown
list_of sound st part out =
    when sound then (when is_short part out then refuses BufferOverflow st out else lists st part out) else refuses BadState st out

-- of a state, with room enough
pub record Lines (before : List ℕ) (st : Reader) (part out places outAfter : List ℕ) (r : Listed) : Type 0 where
  pub shown : shown_of places outAfter r ≡ lists (state_of before st) part out
  pub stands : is_state places r.reader ≡ true
  pub written_in : r.written ≤ length out

-- of any; a refusal for what was lent changes neither reader nor places
pub record Lists (before : List ℕ) (st : Reader) (part out places outAfter : List ℕ) (r : Listed) : Type 0 where
  pub shown : shown_of places outAfter r ≡ list_of (is_state before st) (state_of before st) part out
  pub written_in : r.written ≤ length out
  pub stands : is_state before st ≡ true → is_state places r.reader ≡ true
  pub kept : (when is_state before st then is_short part out else true) ≡ true → (r.reader ≡ st) × (places ≡ before)

-- ---- A text at the front of a buffer

abbrev pub front_of : List ℕ → List ℕ → ℕ × List ℕ
front_of text out = put_within (length text) text 0 out
