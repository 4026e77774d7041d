-- Any run of calls of `crsf_log_next` over a state, from a reset on (RULES 16.12).
-- Assumes nothing.
use Rattle.std.specs.Prelude.{ℕ, ◌≡◌, List, [], ◌++◌, length, drop}
use Rattle.kit_log.specs.Entry.{Entry}
use Rattle.kit_log.specs.Call.{given}
use Rattle.log_reader.specs.Reader.{said_by}
use Rattle.host_log.specs.State.{size, places_in}
use Rattle.host_log.specs.Calls.{StateSteps, reset_state}
use Rattle.host_log.specs.declared.Replied.{Replied}

-- `Session log state unread es`: of the log so far, the state has come to this, `unread` is still to be taken, and these entries were given
pub data Session : List ℕ → List ℕ → List ℕ → List Entry → Type 0 where
  begin : (state : List ℕ) → length state ≡ size → Session [] (reset_state state).1 [] []
  offer : {log state unread : List ℕ} {es : List Entry} (piece : List ℕ) → Session log state unread es → Session (log ++ piece) state (unread ++ piece) es
  ask : {log state : List ℕ} {es : List Entry} (input behind after : List ℕ) (r : Replied)
      → Session log state (input ++ behind) es
      → StateSteps state input after r
      → Session log after (drop r.taken input ++ behind) (es ++ given (said_by input (places_in after) r.answer))
