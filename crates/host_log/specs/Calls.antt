-- One call of a log's reader over the host's state, the end, and a reset (RULES 16.12).
-- Assumes nothing.
use Rattle.std.specs.Prelude.{◌≡◌, Bool, true, false, List, [], ◌∷◌, ℕ, eqb, length, Ok, Err}
use Rattle.base.specs.Choice.{when◌then◌else◌}
use Rattle.refusals.specs.Row.{row_of, number_of}
use Rattle.refusals.specs.declared.Refusal.TheVariants.{BadState}
use Rattle.log_reader.specs.Reader.{Runs, Finishes}
use Rattle.log_reader.specs.declared.Wanted.TheVariants.{Version}
use Rattle.log_reader.specs.declared.Reader.{Reader}
use Rattle.log_reader.specs.declared.Reader.TheVariants.{Number}
use Rattle.log_reader.specs.declared.Answer.{Answer}
use Rattle.log_reader.specs.declared.Answer.TheVariants as answer
use Rattle.log_reader.specs.Reader.{Ending}
use Rattle.host_log.specs.State.{size, reader_in, places_in, state_of, is_state}
use Rattle.host_log.specs.declared.Replied.{Replied}

-- whether a reader refused its state
abbrev pub bad_state : Answer → Bool
bad_state answer.More = false
bad_state (answer.Entry t place) = false
bad_state (answer.Refused r) = eqb (number_of r) (number_of BadState)

-- the call is the reader's over the places, and the state stands for where the reader is then
pub record Moves (before input after : List ℕ) (r : Replied) : Type 0 where
  pub reader : Reader
  pub runs : Runs (places_in before) (reader_in before) input (places_in after) (record { reader = reader; taken = r.taken; answer = r.answer })
  pub is : after ≡ state_of reader (places_in after)

-- what is no state is refused, and stays
pub record StateSteps (before input after : List ℕ) (r : Replied) : Type 0 where
  pub refuses : is_state before ≡ false → (r ≡ record { taken = 0; answer = answer.Refused BadState }) × (after ≡ before)
  pub moves : is_state before ≡ true → Moves before input after r

abbrev pub bad_end : Ending → Bool
bad_end (Ok tt) = false
bad_end (Err r) = eqb (number_of r) 8

pub record Ends (before after : List ℕ) (r : Ending) : Type 0 where
  pub reader : Reader
  pub finishes : Finishes (places_in before) (reader_in before) (record { reader = reader; ending = r })
  pub is : after ≡ state_of reader (places_in before)

pub record StateEnds (before after : List ℕ) (r : Ending) : Type 0 where
  pub refuses : is_state before ≡ false → (r ≡ Err BadState) × (after ≡ before)
  pub ends : is_state before ≡ true → Ends before after r

-- as a row: 0, or the refusal's
unfoldable pub ending_row : Ending → List ℕ
ending_row (Ok tt) = 0 ∷ 0 ∷ []
ending_row (Err r) = row_of r

-- a reset looks at no byte of the state, only at how many there are: the row, and the state afterwards
unfoldable pub reset_state : List ℕ → List ℕ × List ℕ
reset_state state = when eqb (length state) size then (ending_row (Ok tt), state_of (Number Version 0 0) (places_in state)) else (row_of BadState, state)
