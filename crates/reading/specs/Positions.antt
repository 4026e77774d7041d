-- Where in the upload (RULES 18). The bytes of a stream are numbered: from 0, or after a restore from the restored position. Where an answer began is
-- counted over the answers before it, by what they dropped, and so is where the parser stands: at its first held byte, else at the next byte.
-- Assumes nothing.
use Rattle.std.specs.Prelude.{◌≡◌, ℕ, ◌+◌, ◌-◌, ◌^◌, ◌≤◌, Bool, List, [], ◌∷◌, ◌++◌, leb, length, drop}
use Rattle.reading.specs.Answer.{Answer, drops}
use Rattle.reading.specs.Reading.{stop, reading}
use Rattle.reading.specs.Call.{call}

-- the greatest position that is carried: an unsigned number of 64 bits
abbrev pub greatest : ℕ
greatest = 2 ^ 64 - 1

-- the position behind some answers, the first of which began at p
abbrev pub behind : ℕ → List Answer → ℕ
behind p [] = p
behind p (a ∷ more) = behind (p + drops a) more

-- some answers, each with the position where it began
abbrev pub numbered : ℕ → List Answer → List (ℕ × Answer)
numbered p [] = []
numbered p (a ∷ more) = (p, a) ∷ numbered (p + drops a) more

-- a stream's bytes can be numbered: a parser that stands at p, with that many bytes held and that many offered. What can't is refused with 12
unfoldable pub is_within : ℕ → ℕ → ℕ → Bool
is_within p held input = leb (p + held + input) greatest

-- what demand 3 says of the positions in a history of calls whose stream begins at p
pub record Positioned (m p : ℕ) (stream held unread : List ℕ) (given : List Answer) : Type 0 where
  -- each answer given began where the reading of the stream, and of every longer one, has it; those to come begin behind it
  pub so_far : (more : List ℕ)
      → numbered p (reading m (stream ++ more)).answers ≡ numbered p given ++ numbered (behind p given) (reading m (held ++ unread ++ more)).answers
  -- the parser stands at its first held byte, else at the next byte
  pub after : p ≤ behind p given
  pub own : drop (behind p given - p) stream ≡ held ++ unread
  -- it stands no further than the stream reaches: all bytes dropped, held and unread are the stream's
  pub counted : behind p given + length (held ++ unread) ≡ p + length stream
  -- where a call on all that is unread asks for more, these are all positions of the reading, and the parser stands where the tail begins
  pub all : (call m held unread).answer ≡ stop
      → (numbered p (reading m stream).answers ≡ numbered p given) × (behind p (reading m stream).answers ≡ behind p given)
