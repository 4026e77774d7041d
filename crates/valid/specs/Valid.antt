-- What the test for one whole valid frame promises: it decides `Valid` of the reading (RULES 4).
-- Assumes nothing.
use Rattle.std.specs.Prelude.{◌≡◌, Bool, true}

-- r is true exactly where P holds
pub record Decides (P : Type 0) (r : Bool) : Type 0 where
  pub yes : r ≡ true → P
  pub no : P → r ≡ true
