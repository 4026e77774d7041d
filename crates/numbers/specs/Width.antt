-- How many bytes a number has.
-- Assumes nothing.
use Rattle.std.specs.Prelude.{ℕ, min, max}

-- 1 to 4: a width below 1 is taken for 1, and one above 4 for 4
abbrev pub width_of : ℕ → ℕ
width_of width = max 1 (min width 4)
