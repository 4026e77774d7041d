-- Any session with the reader: calls of the code, over pieces cut anywhere, from a reset on.
-- Assumes nothing.
use Rattle.std.specs.Prelude.{ℕ, ◌≤◌, List, [], ◌++◌, length, drop}
use Rattle.reading.specs.Reading.{limit}
use Rattle.kit_log.specs.Entry.{Entry}
use Rattle.kit_log.specs.Call.{given}
use Rattle.log_reader.specs.Reader.{said_by, Nexts}
use Rattle.log_reader.specs.declared.Wanted.TheVariants.{Version}
use Rattle.log_reader.specs.declared.Reader.{Reader}
use Rattle.log_reader.specs.declared.Reader.TheVariants.{Number}
use Rattle.log_reader.specs.declared.Answered.{Answered}

-- `Session stream p st unread es`: of the log so far the reader has come to st over the places p, `unread` is still to be taken, and these entries
-- were given. `ask` is a call of `next`, of which its promise is known and nothing else
pub data Session : List ℕ → List ℕ → Reader → List ℕ → List Entry → Type 0 where
  begin : (p : List ℕ) → limit ≤ length p → Session [] p (Number Version 0 0) [] []
  offer : {stream p unread : List ℕ} {st : Reader} {es : List Entry} (piece : List ℕ)
      → Session stream p st unread es
      → Session (stream ++ piece) p st (unread ++ piece) es
  ask : {stream p : List ℕ} {st : Reader} {es : List Entry} (input behind after : List ℕ) (r : Answered)
      → Session stream p st (input ++ behind) es
      → Nexts p st input after r
      → Session stream after r.reader (drop r.taken input ++ behind) (es ++ given (said_by input after r.answer))
