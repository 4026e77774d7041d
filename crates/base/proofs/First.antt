-- Laws of the first element that a test finds.
-- Assumes nothing.
use mathlib.Core.Path.{◌≡◌, refl, ap}
use mathlib.Core.Bool.{Bool, true, false}
use mathlib.Core.List.{List, [], ◌∷◌}
use Prim.Native.Nat.{ℕ, zero, suc, ◌<◌}
use native.Mathlib.Nat.{le_of_suc-le-suc, not-suc-le-zero}
use native.Mathlib.Omega.{arith}
use lib.ListN.{length, get_or, drop}
use lib.Seq.{drop-cons}
use Rattle.base.specs.First.{first_where}
use Rattle.base.proofs.Tests.{by_test}

module _ {A : Type 0} (t : A → Bool) (z : A) where
  -- ---- one turn of a loop that looks for it

  -- an element that the test finds is the first one from its own place on
  pub found : (l : List A) (i : ℕ) → i < length l → t (get_or l i z) ≡ true → first_where t (drop i l) ≡ 0
  unfolding first_where
  found l i h hit = rw (drop-cons l i z, hit)

  -- one that it does not find is passed by
  pub passed : (l : List A) (i : ℕ) → i < length l → t (get_or l i z) ≡ false → first_where t (drop i l) ≡ suc (first_where t (drop (suc i) l))
  unfolding first_where
  passed l i h miss = rw (drop-cons l i z, miss)

  -- ---- what it is

  -- every element before it is one that the test does not find
  pub before_first : (l : List A) (i : ℕ) → i < first_where t l → t (get_or l i z) ≡ false
  unfolding first_where
  before_first [] i h = absurd (not-suc-le-zero h)
  before_first (x ∷ xs) zero h = by_test (t x) (λ hit. absurd (not-suc-le-zero (rw hit at h))) (λ miss. miss)
  before_first (x ∷ xs) (suc i) h =
      by_test (t x) (λ hit. absurd (not-suc-le-zero (rw hit at h))) (λ miss. before_first xs i (le_of_suc-le-suc (rw miss at h)))

  -- and it is one that it finds
  pub first_found : (l : List A) → first_where t l < length l → t (get_or l (first_where t l) z) ≡ true
  unfolding first_where
  first_found [] h = absurd (not-suc-le-zero h)
  first_found (x ∷ xs) h =
      by_test (t x) (λ hit. rw hit hit) (λ miss. rw miss (first_found xs (le_of_suc-le-suc (rw miss at h))))

  -- where it finds none of them, there is none
  pub none_found : (l : List A) → ((i : ℕ) → i < length l → t (get_or l i z) ≡ false) → first_where t l ≡ length l
  unfolding first_where
  none_found [] h = refl
  none_found (x ∷ xs) h = rw (h 0 (omega arith)) (ap suc (none_found xs (λ i less. h (suc i) (omega (arith, less)))))

  -- so whoever knows which is the first knows what is answered
  pub first_at : (l : List A) (k : ℕ) → k < length l → ((i : ℕ) → i < k → t (get_or l i z) ≡ false) → t (get_or l k z) ≡ true → first_where t l ≡ k
  unfolding first_where
  first_at [] k h misses hit = absurd (not-suc-le-zero h)
  first_at (x ∷ xs) zero h misses hit = rw hit
  first_at (x ∷ xs) (suc k) h misses hit =
      rw (misses 0 (omega arith)) (ap suc (first_at xs k (le_of_suc-le-suc h) (λ i less. misses (suc i) (omega (arith, less))) hit))
