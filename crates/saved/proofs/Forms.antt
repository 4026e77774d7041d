-- What the tests of a span and of a form say, and what is answered at each return.
-- Assumes nothing.
use Rattle.std.specs.Prelude.{Err}
use mathlib.Core.Path.{◌≡◌, refl, sym, ap, ◌∙◌}
use mathlib.Core.Bool.{true, false, and-eq-true_iff, ◌&&◌}
use mathlib.Core.List.{List, ◌++◌}
use Prim.Native.Nat.{ℕ, ◌+◌, ◌-◌, ◌≤◌, ◌<◌}
use native.Mathlib.Omega.{arith}
use borrow.Author.Tests.{ltb-true, leb-true, eqb-true, le-leb, lt-leb, lt-ltb, eq-eqb, ne_eqb}
use lib.Dec.{leb, ltb}
use lib.ListN.{length, take, drop, length-drop}
use lib.Seq.{take_all}
use Rattle.groups.specs.declared.Fault.{Fault}
use Rattle.groups.specs.Reading.{NumberRead, unfinished, ends, malformed, read, front_of, numbered}
use Rattle.groups.proofs.Groups.{one_group}
use Rattle.groups.proofs.Laws.{rest_of, found}
use Rattle.saved.specs.Form.{held_form, is_savable, is_counted, is_held_form, behind_number, held_bytes}

-- ---- a form whose count takes up one byte

pub length_form : (held : List ℕ) → length held < 128 → length (held_form held) ≡ length held + 1
unfolding held_form
length_form held h = ap (λ (l : List ℕ). length (l ++ held)) (one_group (length held) h) ∙ omega arith

-- ---- what the tests say

pub record Savable (m start end : ℕ) : Type 0 where
  pub ordered : start ≤ end
  pub inside : end ≤ m
  pub few : end - start < m

pub savable : (m start end : ℕ) → is_savable m start end ≡ true → Savable m start end
unfolding is_savable
savable m start end e =
    let first = (and-eq-true_iff (leb start end) (leb end m && ltb (end - start) m)).0 e in
    let second = (and-eq-true_iff (leb end m) (ltb (end - start) m)).0 first.1 in
    record { ordered = leb-true start end first.0; inside = leb-true end m second.0; few = ltb-true (end - start) m second.1 }

pub savable_is : {m start end : ℕ} → Savable m start end → is_savable m start end ≡ true
unfolding is_savable
savable_is {m} {start} {end} s =
    simp (le-leb start end s.ordered, le-leb end m s.inside, lt-ltb (end - start) m s.few)

-- a form that is accepted: its count is that of its held bytes, which are fewer than the limit and stand behind it
pub record Accepted (m : ℕ) (form : List ℕ) : Type 0 where
  pub few : length (held_bytes m form) < m
  pub counted : read (m - 1) form ≡ ends (length (held_bytes m form)) (held_bytes m form)
  pub size : ℕ
  pub some : 1 ≤ size
  pub inside : size ≤ length form
  pub behind : held_bytes m form ≡ drop size form

module _ (m : ℕ) (form : List ℕ) where
  by_count : 1 ≤ m → (r : NumberRead) → read (m - 1) form ≡ r → is_counted r ≡ true → Accepted m form
  unfolding is_counted behind_number
  by_count some (unfinished v w) e good = absurd (let z : ◌≡◌ {A = ℕ} 0 1 = cc in omega arith)
  by_count some (malformed rest) e good = absurd (let z : ◌≡◌ {A = ℕ} 0 1 = cc in omega arith)
  by_count some (ends count rest) e good =
      let held : held_bytes m form ≡ rest = ap behind_number e in
      let size : count ≡ length (held_bytes m form) = sym (eqb-true (length rest) count good) ∙ ap length (sym held) in
      let counted : read (m - 1) form ≡ ends (length (held_bytes m form)) (held_bytes m form) = cc in
      let b = rest_of (m - 1) form counted in
      record {
        few = omega (arith, b.small);
        counted = counted;
        size = b.size;
        some = b.some;
        inside = b.inside;
        behind = b.behind;
      }

  pub accepted : is_held_form m form ≡ true → Accepted m form
  unfolding is_held_form
  accepted e =
      let both = (and-eq-true_iff (leb 1 m) (is_counted (read (m - 1) form))).0 e in
      by_count (leb-true 1 m both.0) (read (m - 1) form) refl both.1

-- ---- the count, as the code reads it, up to the greatest that there is below the limit

pub no_limit : {m : ℕ} (form : List ℕ) → m ≡ 0 → is_held_form m form ≡ false
unfolding is_held_form
no_limit {m} form e = simp (lt-leb 1 m (omega arith))

module _ {m : ℕ} (form : List ℕ) {g : ℕ} (greatest : (1 ≤ m) × (g ≡ m - 1)) where
  by_read : {r : NumberRead} → read g form ≡ r → read (m - 1) form ≡ r
  by_read e = ap (λ (k : ℕ). read k form) (sym greatest.1) ∙ e

  counted_no : {r : NumberRead} → read g form ≡ r → is_counted r ≡ false → is_held_form m form ≡ false
  unfolding is_held_form
  counted_no e bad = simp (le-leb 1 m greatest.0, by_read e) bad

  no_number : {f : Fault} (r : NumberRead) → read g form ≡ r → Err f ≡ front_of (length form) r → is_held_form m form ≡ false
  unfolding is_counted front_of
  no_number (unfinished v w) e q = counted_no e refl
  no_number (malformed rest) e q = counted_no e refl
  no_number (ends n rest) e q = absurd (let z : ◌≡◌ {A = ℕ} 0 1 = cc in omega arith)

  pub not_number : {f : Fault} → Err f ≡ front_of (length form) (read g form) → is_held_form m form ≡ false
  not_number = no_number (read g form) refl

  module _ {n k : ℕ} (number : numbered n k ≡ front_of (length form) (read g form)) where
    pub number_inside : k ≤ length form
    number_inside = (found g form number).inside

    -- what stands behind it, as the code lends it on
    abbrev behind : List ℕ
    behind = take (length form - k) (drop k form)

    lent : behind ≡ drop k form
    lent = take_all (length form - k) (drop k form) (omega (arith, length-drop k form))

    pub counted_is : length behind ≡ n → (is_held_form m form ≡ true) × (behind ≡ held_bytes m form)
    unfolding is_held_form is_counted behind_number
    counted_is exact =
        let e = by_read (found g form number).reading in
        (simp (le-leb 1 m greatest.0, e, eq-eqb (length (drop k form)) n (ap length (sym lent) ∙ exact)), lent ∙ sym (ap behind_number e))

    pub counted_not : (length behind ≡ n → ⊥) → is_held_form m form ≡ false
    unfolding is_counted
    counted_not differs = counted_no (found g form number).reading (ne_eqb _ n (λ e. differs (ap length lent ∙ e)))
