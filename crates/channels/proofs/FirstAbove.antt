-- Channels up to 2047 are those of which none is found above.
-- Assumes nothing.
use Rattle.std.specs.Prelude.{Some, None}
use Rattle.std.specs.List.{position_or_len}
use mathlib.Core.Bool.{Bool, cond}
use mathlib.Core.Path.{◌≡◌, refl}
use mathlib.Core.List.{List, [], ◌∷◌}
use mathlib.Core.Logic.{⊎_elim}
use Prim.Native.Nat.{ℕ, ◌≤◌, ◌<◌}
use native.Mathlib.Omega.{arith}
use borrow.Author.Tests.{le-ltb, ltb-false, ltb-true}
use lib.Dec.{ltb}
use lib.ListN.{length, get_or, get_or-eq_default}
use Rattle.base.specs.First.{first_where}
use Rattle.base.proofs.Tests.{by_test, below}
use Rattle.base.proofs.First.{before_first, none_found}
use Rattle.channels.specs.Digits.{Below}
use Rattle.channels.specs.Channels.{greatest, first_above, place_above}

-- where none is above, each is a number of 11 bits
pub none_above : (l : List ℕ) → length l ≤ first_above l → Below 11 l
none_above l h i =
    ⊎_elim
    (λ (less : i < length l). omega (arith, ltb-false greatest (get_or l i 0) (before_first (ltb greatest) 0 l i (omega arith))))
    (λ (past : length l ≤ i). omega (arith, get_or-eq_default l 0 past))
    (below i (length l))

-- and where each is, none is above
pub not_above : (l : List ℕ) → Below 11 l → first_above l ≡ length l
not_above l h = none_found (ltb greatest) 0 l (λ i less. le-ltb greatest (get_or l i 0) (omega (arith, h i)))

-- ---- the place of the first, or none

same_place : (t : ℕ → Bool) (l : List ℕ) → position_or_len t l ≡ first_where t l
unfolding first_where
same_place t [] = refl
same_place t (x ∷ xs) = by_test (t x) (λ hit. simp hit) (λ miss. simp miss (omega (arith, same_place t xs)))

pub place_is : (l : List ℕ) → cond (ltb (position_or_len (ltb greatest) l) (length l)) (Some (position_or_len (ltb greatest) l)) None ≡ place_above l
place_is l =
    rw (same_place (ltb greatest) l) (by_test (ltb (first_above l) (length l)) (λ t. simp t) (λ t. simp t))

-- where one is found, it is the first, and within
pub above_found : (l : List ℕ) {k : ℕ} → place_above l ≡ Some k → (first_above l ≡ k) × (first_above l < length l)
above_found l {k} e =
    by_test (ltb (first_above l) (length l))
    (λ t. let same = simp t at e in (cc, ltb-true (first_above l) (length l) t))
    (λ t. let none = simp t at e in let z : ◌≡◌ {A = ℕ} 0 1 = cc in absurd (omega arith))

-- and else there is none
pub above_none : (l : List ℕ) → place_above l ≡ None → length l ≤ first_above l
above_none l e =
    by_test (ltb (first_above l) (length l))
    (λ t. let some = simp t at e in let z : ◌≡◌ {A = ℕ} 0 1 = cc in absurd (omega arith))
    (λ t. ltb-false (first_above l) (length l) t)
