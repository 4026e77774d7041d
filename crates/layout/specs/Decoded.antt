-- What a reader of a record answers (RULES 10): the record's numbers, in the order of its fields, or a refusal.
-- Assumes nothing.
use Rattle.std.specs.Prelude.{ℕ, List, [], ◌∷◌, ℤ, Ok, Err, Result}
use Rattle.refusals.specs.Row.{row_of}
use Rattle.refusals.specs.declared.Refusal.{Refusal}
use Rattle.refusals.specs.declared.Refusal.TheVariants.{InvalidPayloadLength}
use Rattle.layout.specs.Layout.{Field, read_as}

-- a record's numbers, or the row of a refusal
pub data Decoded : Type 0 where
  decoded : List ℤ → Decoded
  refused : List ℕ → Decoded

abbrev pub too_short : Decoded
too_short = refused (row_of InvalidPayloadLength)

-- a payload shorter than its layout is refused, bytes behind the layout are ignored, and nothing else is refused
abbrev pub read_of : List Field → List ℕ → Decoded
read_of fs = read_as fs decoded too_short

-- what a reader says, of records that have these numbers
unfoldable pub decoded_by : {R : Type 0} → (R → List ℤ) → Result R Refusal → Decoded
decoded_by values (Ok x) = decoded (values x)
decoded_by values (Err r) = refused (row_of r)

-- ---- A record with an array: what is said, as a row, and the record beside it

-- what is said of a record that was read: 0; of a refusal its number and what it carries
abbrev pub record_row : List ℕ
record_row = 0 ∷ []

unfoldable pub read_row : {A : Type 0} → Result A Refusal → List ℕ
read_row (Ok x) = record_row
read_row (Err r) = row_of r

-- the record that was read, or the one that stands for none
abbrev pub read_record : {A : Type 0} → A → Result A Refusal → A
read_record none (Ok x) = x
read_record none (Err r) = none
