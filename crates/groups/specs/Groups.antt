-- A number in groups of seven bits, low group first, the top bit set when another follows, shortest form only (RULES 9.2).
-- Assumes nothing.
use Rattle.std.specs.Prelude.{◌≡◌, ℕ, zero, suc, ◌+◌, ◌≤◌, ◌/◌, ◌%◌, List, [], ◌∷◌, ltb}
use Rattle.base.specs.Choice.{when◌then◌else◌}

-- the groups of n, at most that many of them
unfoldable pub groups_within : ℕ → ℕ → List ℕ
groups_within zero n = []
groups_within (suc most) n = when ltb n 128 then n ∷ [] else (n % 128 + 128) ∷ groups_within most (n / 128)

-- n never has more than n + 1
unfoldable pub groups : ℕ → List ℕ
groups n = groups_within (suc n) n

-- these bytes are the form of a number up to the greatest, and nothing more
pub record WellFormed (greatest : ℕ) (bytes : List ℕ) : Type 0 where
  pub number : ℕ
  pub small : number ≤ greatest
  pub form : bytes ≡ groups number
