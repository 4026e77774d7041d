-- Strings pass the test just where they are the same; and the test is the code's `==`.
-- Assumes nothing.
use mathlib.Core.Path.{◌≡◌, refl, sym, ap, ap₂, ◌∙◌}
use mathlib.Core.Bool.{Bool, true, false, ◌&&◌, true≢false}
use mathlib.Core.List.{List, [], ◌∷◌}
use Prim.Native.Nat.{ℕ}
use borrow.Author.Tests.{eqb-true, eq-eqb}
use lib.Dec.{eqb}
use lib.Pointwise.{pointwise}
use Rattle.base.specs.Same.{same_bytes}
use Rattle.base.proofs.Tests.{by_test}

-- the code's `==` of slices is the test
pub same_as_slices : (xs ys : List ℕ) → pointwise eqb xs ys ≡ same_bytes xs ys
unfolding same_bytes
same_as_slices [] [] = refl
same_as_slices [] (y ∷ ys) = refl
same_as_slices (x ∷ xs) [] = refl
same_as_slices (x ∷ xs) (y ∷ ys) = ap (λ (t : Bool). eqb x y && t) (same_as_slices xs ys)

pub same_bytes_lem : (xs ys : List ℕ) → same_bytes xs ys ≡ true → xs ≡ ys
unfolding same_bytes
same_bytes_lem [] [] e = refl
same_bytes_lem [] (y ∷ ys) e = absurd (true≢false (sym e))
same_bytes_lem (x ∷ xs) [] e = absurd (true≢false (sym e))
same_bytes_lem (x ∷ xs) (y ∷ ys) e =
    by_test (eqb x y)
    (λ t. ap₂ (λ (b : ℕ) (l : List ℕ). b ∷ l) (eqb-true x y t) (same_bytes_lem xs ys (simp t at e)))
    (λ t. absurd (true≢false (sym (simp t at e))))

pub same_self : (xs : List ℕ) → same_bytes xs xs ≡ true
unfolding same_bytes
same_self [] = refl
same_self (x ∷ xs) = simp (eq-eqb x x refl) (same_self xs)

pub bytes_same : (xs ys : List ℕ) → xs ≡ ys → same_bytes xs ys ≡ true
bytes_same xs ys e = ap (same_bytes xs) (sym e) ∙ same_self xs

-- two tests that pass together are one
both_or_none : (a b : Bool) → (a ≡ true → b ≡ true) → (b ≡ true → a ≡ true) → a ≡ b
both_or_none true b f g = sym (f refl)
both_or_none false true f g = g refl
both_or_none false false f g = refl

pub same_swap : (xs ys : List ℕ) → same_bytes xs ys ≡ same_bytes ys xs
same_swap xs ys =
    both_or_none (same_bytes xs ys) (same_bytes ys xs) (λ e. bytes_same ys xs (sym (same_bytes_lem xs ys e))) (λ e. bytes_same xs ys (sym (same_bytes_lem ys xs e)))
