-- A raw channel in microseconds, and the raw view of any bytes, for a host (RULES 14).
-- Assumes nothing.
use Rattle.std.specs.Prelude.{ℕ, ◌≡◌, List, [], ◌∷◌, eqb, get_or, drop}
use Rattle.base.specs.Choice.{when◌then◌else◌}
use Rattle.micros.specs.Micros.{Answers}
use Rattle.host_answer.specs.Answer.{lowest_first, packed, answer_row}
use Rattle.host_records.specs.Read.{given_all, by_row}

-- what `micros` answers for a raw value x: a refusal is answered as every entry does, else the float's bits go to the front of the slice
pub record GivesMicroseconds (x : ℕ) (out : List ℕ) (r : ℕ × List ℕ) : Type 0 where
  pub row : List ℕ
  pub exact : Answers x row
  pub gives : r ≡ by_row row (given_all (drop 1 row) out) out

-- number 0, address, type and check byte, lowest first
abbrev pub raw_bytes : ℕ → ℕ → ℕ → ℕ
raw_bytes address kind check = lowest_first (0 ∷ address ∷ kind ∷ check ∷ [])

-- a raw view's row: as it stands, or a refusal as every entry answers it
unfoldable pub answer_raw : List ℕ → ℕ
answer_raw row = when eqb (get_or row 0 0) 0 then lowest_first row else packed (answer_row row)
