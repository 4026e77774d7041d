-- The answers of two uploads, place by place, and which of them agree (RULES 19).
-- Assumes nothing.
use Rattle.std.specs.Prelude.{ℕ, suc, Bool, List, [], ◌∷◌}
use Rattle.base.specs.Choice.{when◌then◌else◌}
use Rattle.base.specs.Same.{same_bytes}
use Rattle.reading.specs.Answer.{Answer, row}
use Rattle.reading.specs.Reading.{First, stop, says}

-- what one upload has at a place: an answer, or none, since it has ended
pub data Side : Type 0 where
  ended : Side
  gave : Answer → Side

-- .. by what stands first in what is left of it
abbrev pub side_of : First → Side
side_of stop = ended
side_of (says a) = gave a

pub record Pair : Type 0 where
  pub left : Side
  pub right : Side

abbrev pub pair : Side → Side → Pair
pair l r = record { left = l; right = r }

-- the answers of both, place by place, as far as the longer goes
unfoldable pub pairs_of : List Answer → List Answer → List Pair
pairs_of [] [] = []
pairs_of [] (b ∷ ys) = pair ended (gave b) ∷ pairs_of [] ys
pairs_of (a ∷ xs) [] = pair (gave a) ended ∷ pairs_of xs []
pairs_of (a ∷ xs) (b ∷ ys) = pair (gave a) (gave b) ∷ pairs_of xs ys

-- all that counts of a side: the number of its answer and what that carries, which of a frame are all its bytes (`row` of the reading). A side that
-- has ended has nothing, and no answer has nothing
unfoldable pub side_row : Side → List ℕ
side_row ended = []
side_row (gave a) = row a

abbrev pub agrees : Pair → Bool
agrees p = same_bytes (side_row p.left) (side_row p.right)

-- how many pairs agree, and how many differ
unfoldable pub agreeing : List Pair → ℕ
agreeing [] = 0
agreeing (p ∷ more) = when agrees p then suc (agreeing more) else agreeing more

unfoldable pub differing : List Pair → ℕ
differing [] = 0
differing (p ∷ more) = when agrees p then differing more else suc (differing more)
