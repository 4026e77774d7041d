-- A raw channel value x means (x − 992) · 5 / 8 + 1500 microseconds, as an f32 (RULES 12): read from the float's own bits, its exact number times 8
-- is 5 x + 7040, for x up to 2047.
-- Assumes nothing.
use Rattle.std.specs.Prelude.{◌≡◌, List, [], ◌∷◌, ◌⊎◌, ℕ, ◌+◌, ◌*◌, ◌/◌, ◌%◌, ◌^◌, ◌<◌, ◌≤◌, Ok, Err, Result}
use Rattle.std.specs.Float.{binary32}
use Rattle.std.specs.Float.Ieee.{Float, to_bits}
use Rattle.refusals.specs.Row.{row_of}
use Rattle.refusals.specs.declared.Refusal.TheVariants.{ChannelRange}
use Rattle.refusals.specs.declared.Refusal.{Refusal}

-- exactly that many microseconds, or a refusal
abbrev pub Microseconds : Type 0
Microseconds = Result Float Refusal

-- what is said, as a row: 0 and the float's own bits, or the refusal's number and what it carries
abbrev pub exact_row : ℕ → List ℕ
exact_row bits = 0 ∷ bits ∷ []

unfoldable pub microseconds_row : Microseconds → List ℕ
microseconds_row (Ok f) = exact_row (to_bits binary32 f)
microseconds_row (Err r) = row_of r

-- The bits of an f32, as whole numbers: the sign is bit 31, the exponent's field e is bits 23 to 30, the digits t are bits 0 to 22.
-- With the sign clear and e from 1 to 254 they stand for the number (2 ^ 23 + t) * 2 ^ e / 2 ^ 150. Eight times that is n:
pub record EightTimes (bits n : ℕ) : Type 0 where
  pub above_zero : 1 ≤ bits / 2 ^ 23
  pub finite : bits / 2 ^ 23 ≤ 254
  pub exact : (2 ^ 23 + bits % 2 ^ 23) * 2 ^ (bits / 2 ^ 23) * 8 ≡ n * 2 ^ 150

-- eight times the microseconds that x means
abbrev pub eighths : ℕ → ℕ
eighths x = 5 * x + 7040

abbrev pub greatest : ℕ
greatest = 2047

-- up to 2047 the exact number, above it the refusal of channel 0
pub record Exactly (x : ℕ) (row : List ℕ) : Type 0 where
  pub within : x ≤ greatest
  pub bits : ℕ
  pub said : row ≡ exact_row bits
  pub exact : EightTimes bits (eighths x)

pub record TooLarge (x : ℕ) (row : List ℕ) : Type 0 where
  pub above : greatest < x
  pub said : row ≡ row_of (ChannelRange 0)

abbrev pub Answers : ℕ → List ℕ → Type 0
Answers x row = Exactly x row ⊎ TooLarge x row
