-- Laws of the form with a position (RULES 9): it is accepted, and its position and held bytes are those that were saved; of two, equal held bytes and
-- positions mean equal forms; the older form is accepted at position 0; and none has more than 75 bytes.
-- Assumes nothing.
use mathlib.Core.Path.{◌≡◌, refl, sym, ap, ap₂, ◌∙◌}
use mathlib.Core.Bool.{true, false, ◌&&◌, and-eq-true_iff, true≢false}
use mathlib.Core.List.{List, [], ◌∷◌, ◌++◌}
use Prim.Native.Nat.{ℕ, ◌+◌, ◌≤◌, ◌<◌}
use native.Mathlib.Nat.{lt_of_le_of_lt}
use native.Mathlib.Omega.{arith}
use borrow.Author.Tests.{eqb-true, ne_eqb}
use lib.Dec.{lit<}
use lib.ListN.{length, get_or, drop, length-append}
use Rattle.base.specs.Bytes.{Bytes}
use Rattle.base.proofs.Parts.{bytes_drop}
use Rattle.groups.specs.Groups.{groups}
use Rattle.groups.specs.Reading.{NumberRead, unfinished, ends, malformed, read}
use Rattle.groups.proofs.Groups.{one_group, groups_most}
use Rattle.groups.proofs.Reading.{written_reads, read_written}
use Rattle.groups.proofs.Laws.{rest_of}
use Rattle.reading.specs.Reading.{limit}
use Rattle.reading.specs.Positions.{greatest, is_within}
use Rattle.numbered.proofs.Within.{within, is_within_lem}
use Rattle.saved.specs.Form.{held_form, is_held_form, number_at, behind_number, held_bytes, mark, saved_form, is_marked, position_in, older_in, is_form, held_of}
use Rattle.saved.proofs.Forms.{length_form, accepted}
use Rattle.saved.proofs.Older.{older_accepted, bytes_again, older_again, not_empty, begins_with}

-- ---- a form that was saved

module _ (p : ℕ) (held : List ℕ) where
  pub marked_is : saved_form p held ≡ mark ∷ (groups p ++ held_form held)
  unfolding saved_form
  marked_is = ap (λ (l : List ℕ). l ++ (groups p ++ held_form held)) (one_group mark (lit< tt))

  pub is_marked_lem : is_marked (saved_form p held) ≡ true
  unfolding is_marked
  is_marked_lem = rw marked_is refl

  -- mark, ten groups and a count at most, and then the held bytes: 75 bytes at most, where fewer than 64 are held
  pub length_saved : p ≤ greatest → length held < 128 → length (saved_form p held) ≤ length held + 12
  length_saved small few =
      rw marked_is
      (omega (arith, length-append (groups p) (held_form held), length_form held few, groups_most 9 p (lt_of_le_of_lt small (lit< tt))))

  module _ (small : p ≤ greatest) where
    reads_position : read greatest (drop 1 (saved_form p held)) ≡ ends p (held_form held)
    reads_position = ap (λ (l : List ℕ). read greatest (drop 1 l)) marked_is ∙ written_reads greatest p (held_form held) small

    pub position_again : position_in (saved_form p held) ≡ p
    unfolding position_in number_at
    position_again = simp (is_marked_lem, reads_position)

    pub older_in_lem : older_in (saved_form p held) ≡ held_form held
    unfolding older_in behind_number
    older_in_lem = simp (is_marked_lem, reads_position)

  module _ (m : ℕ) (few : length held < m) (fits : p + length held ≤ greatest) where
    small : p ≤ greatest
    small = omega arith

    -- its held bytes are those that were saved
    pub held_again : held_of m (saved_form p held) ≡ held
    held_again = ap (held_bytes m) (older_in_lem small) ∙ bytes_again m held few

    -- and it is accepted
    pub form_accepted : is_form m (saved_form p held) ≡ true
    unfolding is_form
    form_accepted =
        ap₂ ◌&&◌ (ap (is_held_form m) (older_in_lem small) ∙ older_accepted m held few)
        (ap₂ (λ (q : ℕ) (l : List ℕ). is_within q (length l) 0) (position_again small) held_again ∙ is_within_lem p (length held) 0 (omega arith))

-- ---- the older form, at position 0

module _ (m : ℕ) (held : List ℕ) (few : length held < m) (most : m ≤ limit) where
  not_marked : is_marked (held_form held) ≡ false
  unfolding is_marked
  not_marked = ne_eqb (get_or (held_form held) 0 0) mark (λ e. let first = begins_with held (omega arith) in omega arith)

  pub older_at_0 : position_in (held_form held) ≡ 0
  unfolding position_in
  older_at_0 = simp not_marked

  older_alone : older_in (held_form held) ≡ held_form held
  unfolding older_in
  older_alone = simp not_marked

  pub older_holds : held_of m (held_form held) ≡ held
  older_holds = ap (held_bytes m) older_alone ∙ bytes_again m held few

  pub older_still : is_form m (held_form held) ≡ true
  unfolding is_form
  older_still =
      ap₂ ◌&&◌ (ap (is_held_form m) older_alone ∙ older_accepted m held few)
      (ap₂ (λ (q : ℕ) (l : List ℕ). is_within q (length l) 0) older_at_0 older_holds ∙ is_within_lem 0 (length held) 0 (omega arith))

-- ---- a form that is accepted

pub record Taken (m : ℕ) (form : List ℕ) : Type 0 where
  pub older : is_held_form m (older_in form) ≡ true
  pub few : length (held_of m form) < m
  pub fits : position_in form + length (held_of m form) ≤ greatest

module _ (m : ℕ) (form : List ℕ) where
  pub taken_form : is_form m form ≡ true → Taken m form
  unfolding is_form
  taken_form good =
      let both = (and-eq-true_iff (is_held_form m (older_in form)) (is_within (position_in form) (length (held_of m form)) 0)).0 good in
      record {
        older = both.0;
        few = (accepted m (older_in form) both.0).few;
        fits = let w = within (position_in form) (length (held_of m form)) 0 both.1 in omega arith;
      }

  -- with a position, it is the form of its position and its held bytes
  module _ (all : Bytes form) (good : is_form m form ≡ true) (marked : is_marked form ≡ true) where
    by_read : (r : NumberRead) → read greatest (drop 1 form) ≡ r → position_in form ≡ number_at r → older_in form ≡ behind_number r
        → groups (position_in form) ++ held_form (held_of m form) ≡ drop 1 form
    unfolding number_at behind_number
    by_read (unfinished v w) e p o = absurd (true≢false (sym (taken_form good).older ∙ ap (is_held_form m) o ∙ not_empty m))
    by_read (malformed rest) e p o = absurd (true≢false (sym (taken_form good).older ∙ ap (is_held_form m) o ∙ not_empty m))
    by_read (ends q rest) e p o =
        let whole = (read_written greatest (drop 1 form) q rest (bytes_drop 1 form all) e).0 in
        let b = rest_of greatest (drop 1 form) e in
        let bytes : Bytes rest = rw b.behind (bytes_drop b.size (drop 1 form) (bytes_drop 1 form all)) in
        let again = older_again m rest bytes (rw o at (taken_form good).older) in
        ap₂ (λ (k : ℕ) (l : List ℕ). groups k ++ held_form (held_bytes m l)) p o ∙ ap (λ (l : List ℕ). groups q ++ l) again ∙ sym whole

    first_is : (f : List ℕ) → is_marked f ≡ true → mark ∷ drop 1 f ≡ f
    unfolding is_marked
    first_is [] e = let z = eqb-true 0 mark e in absurd (omega arith)
    first_is (b ∷ f) e = ap (λ (x : ℕ). x ∷ f) (sym (eqb-true b mark e))

    pub form_again : saved_form (position_in form) (held_of m form) ≡ form
    unfolding position_in older_in
    form_again =
        marked_is (position_in form) (held_of m form)
        ∙ ap (λ (l : List ℕ). mark ∷ l) (by_read (read greatest (drop 1 form)) refl (simp marked) (simp marked))
        ∙ first_is form marked

-- of two new forms, equal held bytes and positions mean equal forms
pub same_form : (m : ℕ) (f g : List ℕ) → Bytes f → Bytes g → is_form m f ≡ true → is_form m g ≡ true → is_marked f ≡ true → is_marked g ≡ true
    → held_of m f ≡ held_of m g → position_in f ≡ position_in g → f ≡ g
same_form m f g p q a b i j held position =
    sym (form_again m f p a i) ∙ ap₂ saved_form position held ∙ form_again m g q b j
