-- What the test of a position says, and how the code makes it.
-- Assumes nothing.
use mathlib.Core.Path.{◌≡◌}
use mathlib.Core.Bool.{true, false}
use Prim.Native.Nat.{ℕ, ◌+◌, ◌≤◌, ◌<◌}
use borrow.Author.Tests.{leb-true, le-leb, lt-leb}
use Rattle.reading.specs.Positions.{greatest, is_within}

module _ (p held input : ℕ) where
  pub within : is_within p held input ≡ true → p + held + input ≤ greatest
  unfolding is_within
  within e = leb-true (p + held + input) greatest e

  pub is_within_lem : p + held + input ≤ greatest → is_within p held input ≡ true
  unfolding is_within
  is_within_lem h = le-leb (p + held + input) greatest h

  pub not_within : greatest < p + held + input → is_within p held input ≡ false
  unfolding is_within
  not_within h = lt-leb (p + held + input) greatest h
