-- What the next group of a number is worth, by how many have come: no number of a log has more than five groups.
-- Assumes nothing.
use mathlib.Core.Path.{◌≡◌, refl}
use Prim.Native.Nat.{ℕ, zero, suc, ◌+◌, ◌*◌, ◌^◌, ◌≤◌}
use native.Mathlib.Omega.{arith}
use lib.Dec.{eqb}
use Rattle.base.specs.Choice.{when◌then◌else◌}
use Rattle.kit_log.specs.Entry.{greatest}

-- what holds of each count of groups that may have come
pub up_to_four : (P : ℕ → Type 0) → P 0 → P 1 → P 2 → P 3 → P 4 → (g : ℕ) → g ≤ 4 → P g
up_to_four P a b c d e zero h = a
up_to_four P a b c d e (suc zero) h = b
up_to_four P a b c d e (suc (suc zero)) h = c
up_to_four P a b c d e (suc (suc (suc zero))) h = d
up_to_four P a b c d e (suc (suc (suc (suc zero)))) h = e
up_to_four P a b c d e (suc (suc (suc (suc (suc g))))) h = absurd (omega arith)

pub weight_next : (g : ℕ) → g ≤ 4 → 128 ^ (g + 1) ≡ 128 * 128 ^ g
weight_next = up_to_four (λ (g : ℕ). 128 ^ (g + 1) ≡ 128 * 128 ^ g) refl refl refl refl refl

pub weight_few : (g : ℕ) → g ≤ 4 → 128 * 128 ^ g ≤ greatest → g + 1 ≤ 4
weight_few =
    up_to_four (λ (g : ℕ). 128 * 128 ^ g ≤ greatest → g + 1 ≤ 4) (λ h. omega arith) (λ h. omega arith) (λ h. omega arith) (λ h. omega arith)
    (λ (h : 34359738368 ≤ 4294967295). absurd (omega arith))

pub weight_low : (g : ℕ) → g ≤ 4 → 128 ^ g ≤ 268435456
weight_low = up_to_four (λ (g : ℕ). 128 ^ g ≤ 268435456) (omega arith) (omega arith) (omega arith) (omega arith) (omega arith)

-- the first group is worth 1, and each further one 128 at least
pub weight_unit : (g : ℕ) → g ≤ 4 → eqb (128 ^ g) 1 ≡ eqb g 0
weight_unit = up_to_four (λ (g : ℕ). eqb (128 ^ g) 1 ≡ eqb g 0) refl refl refl refl refl

pub weight_high : (g : ℕ) → g ≤ 4 → 1 ≤ g → 128 ≤ 128 ^ g
weight_high =
    up_to_four (λ (g : ℕ). 1 ≤ g → 128 ≤ 128 ^ g) (λ (h : 1 ≤ 0). absurd (omega arith)) (λ h. omega arith) (λ h. omega arith) (λ h. omega arith) (λ h. omega arith)

-- how many groups have come, by what the next is worth
abbrev pub groups_at : ℕ → ℕ
groups_at w = when eqb w 1 then 0 else when eqb w 128 then 1 else when eqb w 16384 then 2 else when eqb w 2097152 then 3 else 4

pub weight_back : (g : ℕ) → g ≤ 4 → groups_at (128 ^ g) ≡ g
weight_back = up_to_four (λ (g : ℕ). groups_at (128 ^ g) ≡ g) refl refl refl refl refl
