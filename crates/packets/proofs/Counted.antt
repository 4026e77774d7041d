-- The list as the rule says it (RULES 3): 24 bytes are addresses, the eight motor controllers from 90 to 97 and sixteen others. A list and a test in
-- code that were wrong together are refused here.
-- Assumes nothing.
use mathlib.Core.Path.{◌≡◌, refl}
use mathlib.Core.Bool.{Bool, true, false, ◌&&◌, ◌||◌}
use mathlib.Core.List.{List, [], ◌∷◌}
use Prim.Native.Nat.{ℕ, zero, suc, ◌<◌}
use native.Mathlib.Omega.{arith}
use lib.Dec.{T, leb}
use lib.ListN.{length}
use Rattle.base.specs.Choice.{when◌then◌else◌}
use Rattle.base.proofs.Every.{within}
use Rattle.packets.specs.Listed.{among, addresses, listed, short_types, extended_types}

pub twenty_four : length addresses ≡ 24
twenty_four = refl

-- how many of the n bytes from b on pass a test
abbrev how_many : (ℕ → Bool) → ℕ → ℕ → ℕ
how_many f b zero = 0
how_many f b (suc n) = when f b then suc (how_many f (suc b) n) else how_many f (suc b) n

pub twenty_four_bytes : how_many listed 0 256 ≡ 24
unfolding listed
twenty_four_bytes = refl

-- the motor controllers are a range
abbrev is_motor_controller : ℕ → Bool
is_motor_controller b = leb 0x90 b && leb b 0x97

abbrev others : List ℕ
others = 0x00 ∷ 0x0E ∷ 0x10 ∷ 0x12 ∷ 0x13 ∷ 0x14 ∷ 0x80 ∷ 0xC0 ∷ 0xC2 ∷ 0xC4 ∷ 0xC8 ∷ 0xCC ∷ 0xCE ∷ 0xEA ∷ 0xEC ∷ 0xEE ∷ []

abbrev same : Bool → Bool → Bool
same true b = b
same false true = false
same false false = true

same_is : (a b : Bool) → T (same a b) → a ≡ b
same_is true true t = refl
same_is true false t = absurd t
same_is false true t = absurd t
same_is false false t = refl

pub by_rule : (b : ℕ) → b < 256 → listed b ≡ (is_motor_controller b || among b others)
unfolding listed
by_rule b small =
    same_is (listed b) (is_motor_controller b || among b others)
    (within (λ k. same (listed k) (is_motor_controller k || among k others)) 0 256 tt b (omega arith) small)

-- no packet type is in both lists, and there are 29 short ones and 15 extended ones
pub short_types_lem : how_many (λ b. among b short_types) 0 256 ≡ 29
short_types_lem = refl

pub extended_types_lem : how_many (λ b. among b extended_types) 0 256 ≡ 15
extended_types_lem = refl

pub apart : how_many (λ b. among b short_types && among b extended_types) 0 256 ≡ 0
apart = refl
