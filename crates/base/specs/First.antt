-- The first element that a test finds.
-- Assumes nothing.
use Rattle.std.specs.Prelude.{ℕ, suc, Bool, List, [], ◌∷◌}
use Rattle.base.specs.Choice.{when◌then◌else◌}

-- its place, and the count of elements where there is none
module _ {A : Type 0} where
  unfoldable pub first_where : (A → Bool) → List A → ℕ
  first_where t [] = 0
  first_where t (x ∷ xs) = when t x then 0 else suc (first_where t xs)
