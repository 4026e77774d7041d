-- One call of the reader (RULES 16.8): up to the next entry, a refusal, or the end of the piece. And any history of calls.
-- Assumes nothing.
use Rattle.std.specs.Prelude.{◌≡◌, ℕ, ◌+◌, ◌-◌, ◌≤◌, List, [], ◌∷◌, ◌++◌, length, drop}
use Rattle.refusals.specs.declared.Refusal.{Refusal}
use Rattle.kit_log.specs.Entry.{Entry}
use Rattle.kit_log.specs.Reading.{State, number, frame, refused, ended, start, boundary, on, entry, feed, takes, before, read_from, reading}

pub data Said : Type 0 where
  more : Said
  gives : Entry → Said
  refuses : Refusal → Said

-- what is said where the piece ends
unfoldable pub said_at : State → Said
said_at (number want v w) = more
said_at (frame s n h) = more
said_at (refused r) = refuses r
said_at ended = more

pub record Call : Type 0 where
  pub said : Said
  -- how many bytes of the piece were taken
  pub taken : ℕ
  pub state : State

abbrev pub later : ℕ → Call → Call
later n c = record { said = c.said; taken = n + c.taken; state = c.state }

unfoldable pub call : State → List ℕ → Call
call st [] = record { said = said_at st; taken = 0; state = st }
call st (b ∷ s) = elim (feed st b) [ on st' ↦ later (takes st) (call st' s) | entry e ↦ record { said = gives e; taken = takes st; state = boundary } ]

unfoldable pub given : Said → List Entry
given more = []
given (gives e) = e ∷ []
given (refuses r) = []

-- `History stream st unread es`: of the log so far, its pieces one after another, the reader has come to st, `unread` is still to be taken, and these
-- entries were given.
--   begin   after a reset
--   offer   the caller has one more piece
--   ask     a call on what is unread, or on the first part of it
pub data History : List ℕ → State → List ℕ → List Entry → Type 0 where
  begin : History [] start [] []
  offer : {stream unread : List ℕ} {st : State} {es : List Entry} (piece : List ℕ)
      → History stream st unread es
      → History (stream ++ piece) st (unread ++ piece) es
  ask : {stream : List ℕ} {st : State} {es : List Entry} (input behind : List ℕ)
      → History stream st (input ++ behind) es
      → History stream (call st input).state (drop (call st input).taken input ++ behind) (es ++ given (call st input).said)

-- what every history keeps
pub record Faithful (stream : List ℕ) (st : State) (unread : List ℕ) (es : List Entry) : Type 0 where
  pub taken : length unread ≤ length stream
  -- the entries given are the first of the log's and of every longer log's; those still to come, and the end state, are of what is unread
  pub so_far : (more : List ℕ) → reading (stream ++ more) ≡ before es (length stream - length unread) (read_from st (unread ++ more))
  -- once a call on all that is unread gives no entry, all entries are given, and the reader stands where the reading ends
  pub all : given (call st unread).said ≡ []
      → reading stream ≡ record { entries = es; state = (call st unread).state; taken = length stream - length unread + (call st unread).taken }
