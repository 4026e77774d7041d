-- A record is known by its numbers, and a reader's answer by what is decoded: no two of them show the same.
-- Assumes nothing.
use Rattle.std.specs.Prelude.{Ok, Err, Result}
use Prim.Native.Nat.{ℕ}
use mathlib.Core.List.{List, [], ◌∷◌}
use mathlib.Core.Path.{◌≡◌, sym, ap, ◌∙◌}
use lib.IntN.{ℤ, pos}
use lib.ListN.{get_or}
use lib.Signed.{mag}
use Rattle.refusals.proofs.Rows.{one_refusal, not_zero}
use Rattle.refusals.specs.Row.{row_of}
use Rattle.refusals.specs.declared.Refusal.{Refusal}
use Rattle.layout.specs.Decoded.{Decoded, decoded, refused, decoded_by, read_row, read_record}

-- the whole number, and the natural number, in a place
abbrev pub whole : ℕ → List ℤ → ℤ
whole i vs = get_or vs i (pos 0)

abbrev pub natural : ℕ → List ℤ → ℕ
natural i vs = mag (whole i vs)

-- a record that can be made again from its numbers is known by them
pub known_by : {R : Type 0} (values : R → List ℤ) (of : List ℤ → R) → ((x : R) → of (values x) ≡ x)
    → {x y : R} {vs : List ℤ} → values x ≡ vs → values y ≡ vs → x ≡ y
known_by values of back {x} {y} p q = sym (back x) ∙ ap of (p ∙ sym q) ∙ back y

-- ---- what is decoded

abbrev pub numbers_of : Decoded → List ℤ
numbers_of (decoded vs) = vs
numbers_of (refused row) = []

abbrev row_in : Decoded → List ℕ
row_in (decoded vs) = 0 ∷ []
row_in (refused row) = row

pub same_numbers : {vs us : List ℤ} → decoded vs ≡ decoded us → vs ≡ us
same_numbers = ap numbers_of

pub same_refusal : {r s : Refusal} → refused (row_of r) ≡ refused (row_of s) → r ≡ s
same_refusal e = one_refusal (ap row_in e)

pub not_both : (r : Refusal) {vs : List ℤ} → refused (row_of r) ≡ decoded vs → ⊥
not_both r e = not_zero r (ap row_in e)

-- so the answers are one, where records are known by their numbers
module _ {R : Type 0} (values : R → List ℤ) (known : (x y : R) → values x ≡ values y → x ≡ y) where
  one_answer : (r r' : Result R Refusal) → decoded_by values r ≡ decoded_by values r' → r ≡ r'
  unfolding decoded_by
  one_answer (Ok x) (Ok y) e = ap Ok (known x y (same_numbers e))
  one_answer (Ok x) (Err s) e = absurd (not_both s (sym e))
  one_answer (Err r) (Ok y) e = absurd (not_both r e)
  one_answer (Err r) (Err s) e = ap Err (same_refusal e)

  pub answer_known : {r r' : Result R Refusal} {a : Decoded} → decoded_by values r ≡ a → decoded_by values r' ≡ a → r ≡ r'
  answer_known {r} {r'} p q = one_answer r r' (p ∙ sym q)

-- ---- an answer by its row

-- the row of a refusal is that refusal's alone
pub refused_row : {R : Type 0} (a : Result R Refusal) (r : Refusal) → read_row a ≡ row_of r → a ≡ Err r
unfolding read_row
refused_row (Ok x) r e = absurd (not_zero r (sym e))
refused_row (Err s) r e = ap Err (one_refusal e)

-- ---- .. by its row, with the record beside it

by_cases : {R : Type 0} (none : R) (a b : Result R Refusal) → read_row a ≡ read_row b → read_record none a ≡ read_record none b → a ≡ b
unfolding read_row
by_cases none (Ok x) (Ok y) e f = ap Ok f
by_cases none (Ok x) (Err s) e f = absurd (not_zero s (sym e))
by_cases none (Err r) (Ok y) e f = absurd (not_zero r e)
by_cases none (Err r) (Err s) e f = ap Err (one_refusal e)

-- a promise of row and record leaves one answer
pub one_read : {R : Type 0} (none : R) {a b : Result R Refusal} {z : List ℕ × R} → (read_row a, read_record none a) ≡ z
    → (read_row b, read_record none b) ≡ z → a ≡ b
one_read {R} none {a} {b} p q =
    let both = p ∙ sym q in
    by_cases none a b (ap (λ (w : List ℕ × R). w.0) both) (ap (λ (w : List ℕ × R). w.1) both)
