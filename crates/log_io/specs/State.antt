-- What is kept between pieces of a log, what a piece leaves, how a listing ends, and its status (RULES 16).
-- Assumes nothing.
use Rattle.std.specs.Prelude.{ℕ, ◌*◌, ◌≤◌, ◌≡◌, true, List, Result, Ok, Err}
use Rattle.kit_log.specs.Reading as log
use Rattle.kit_log.specs.Reading.{read_from, finish}
use Rattle.log_reader.specs.State.{state_of, is_state}
use Rattle.log_reader.specs.Reader.{ending_of}
use Rattle.log_reader.specs.declared.Reader.{Reader}
use Rattle.refusals.specs.declared.Refusal.{Refusal}
use Rattle.program.specs.declared.Failed as program
use Rattle.log_lines.specs.Text.{longest_entry}
use Rattle.log_lines.specs.declared.Listed.{Listed}
use Rattle.log_io.specs.declared.Next.{Next}
use Rattle.log_io.specs.declared.Next.TheVariants.{Read, End}
use Rattle.log_io.specs.declared.State.{State}
use Rattle.log_io.specs.declared.Stopped.{Stopped}
use Rattle.log_io.specs.declared.Stopped.TheVariants.{Failed, Refused}

-- the reader is a state, and there is room for the lines of any piece
pub record Ready (places : List ℕ) (reader : Reader) (piece out : ℕ) : Type 0 where
  pub stands : is_state places reader ≡ true
  pub room : longest_entry * piece ≤ out

-- a log that is refused is read no further, and none is once a write has failed
abbrev pub next_by : Result Unit Refusal → Next
next_by (Ok tt) = Read
next_by (Err refusal) = End

abbrev pub next_after : Result Unit program.Failed → Result Unit Refusal → Result Next program.Failed
next_after (Ok tt) status = Ok (next_by status)
next_after (Err failed) status = Err failed

-- what a piece leaves: the reader stands where the reading of it ends
pub record Leaves (before : List ℕ) (reader : Reader) (piece places : List ℕ) (r : Reader) : Type 0 where
  pub stands : is_state places r ≡ true
  pub state_is : state_of places r ≡ (read_from (state_of before reader) piece).state

-- .. and what comes then, once its lines are written
abbrev pub state_after : Listed → State
state_after listed = record { reader = listed.reader; next = next_by listed.status }

-- what is answered once the last line is handed to a write is how the log ends there
abbrev pub Ends : log.State → Result Unit Stopped → Type 0
Ends st (Ok tt) = ending_of (finish st) ≡ Ok tt
Ends st (Err (Refused r)) = ending_of (finish st) ≡ Err r
Ends st (Err (Failed f)) = Unit {0}

-- the status is 0 only where a whole log was read and written
abbrev pub status_at : Result Unit Stopped → ℕ
status_at (Ok tt) = 0
status_at (Err e) = 1
