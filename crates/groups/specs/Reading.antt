-- A number read byte by byte, over the greatest that it may be. It is judged at its last byte, form first, or as soon as there are too many groups
-- (RULES 9.2).
-- Assumes nothing.
use Rattle.std.specs.Prelude.{ℕ, ◌+◌, ◌*◌, ◌-◌, ◌&&◌, List, [], ◌∷◌, ltb, eqb, length, Result, Ok, Err}
use Rattle.base.specs.Choice.{when◌then◌else◌}
use Rattle.groups.specs.declared.Step.{Step}
use Rattle.groups.specs.declared.Step.TheVariants.{GoesOn, Done, Malformed}
use Rattle.groups.specs.declared.Number.{Number}
use Rattle.groups.specs.declared.Fault.{Fault}
use Rattle.groups.specs.declared.Fault.TheVariants.{Unfinished, Malformed as Misshapen}

-- ---- One byte

-- What one byte makes of a number that is begun is a `Step` of src/lib.rt. The number goes on, with its value so far and what its next group is
-- worth; or it is done; or it is malformed.

-- a byte whose top bit is set: another group follows, worth at least 128 * weight, so where that is above the greatest there are too many
unfoldable pub further : ℕ → ℕ → ℕ → ℕ → Step
further greatest value weight b =
    when ltb greatest (128 * weight) then Malformed else GoesOn (value + (b - 128) * weight) (128 * weight)

unfoldable pub valued : ℕ → ℕ → ℕ → ℕ → Step
valued greatest value weight b = when ltb greatest (value + b * weight) then Malformed else Done (value + b * weight)

-- the last byte: first its form, that it is not 0 after other groups; then the value
unfoldable pub final : ℕ → ℕ → ℕ → ℕ → Step
final greatest value weight b = when eqb b 0 && ltb 1 weight then Malformed else valued greatest value weight b

unfoldable pub step : ℕ → ℕ → ℕ → ℕ → Step
step greatest value weight b = when ltb b 128 then final greatest value weight b else further greatest value weight b

-- for any value and weight: a number that is begun has a value below what its next group is worth
abbrev pub step_of : ℕ → ℕ → ℕ → ℕ → Step
step_of greatest value weight b = when ltb value weight then step greatest value weight b else Malformed

-- ---- A string

-- the string ends inside the number; the number ends, and this is what stands behind it; it is malformed, judged at the byte before this rest
pub data NumberRead : Type 0 where
  unfinished : (value weight : ℕ) → NumberRead
  ends : (number : ℕ) (rest : List ℕ) → NumberRead
  malformed : (rest : List ℕ) → NumberRead

unfoldable pub run : ℕ → ℕ → ℕ → List ℕ → NumberRead
run greatest value weight [] = unfinished value weight
run greatest value weight (b ∷ s) =
    elim (step greatest value weight b) [ GoesOn v w ↦ run greatest v w s | Done n ↦ ends n s | Malformed ↦ malformed s ]

-- from the first byte on: nothing so far, and the first group is worth 1
abbrev pub read : ℕ → List ℕ → NumberRead
read greatest s = run greatest 0 1 s

-- the number and how many bytes it takes up, or why none stands there
abbrev pub Front : Type 0
Front = Result Number Fault

abbrev pub numbered : ℕ → ℕ → Front
numbered n k = Ok (record { value = n; size = k })

-- what the code says of the front of a string of that many bytes: the number and how many of them it takes up
unfoldable pub front_of : ℕ → NumberRead → Front
front_of size (unfinished value weight) = Err Unfinished
front_of size (ends number rest) = numbered number (size - length rest)
front_of size (malformed rest) = Err Misshapen
