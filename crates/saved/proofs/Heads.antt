-- The position of a form and its older form, as the code finds them; and what a save and a restore answer, from what those of the older form answered.
-- Assumes nothing.
use Rattle.std.specs.Prelude.{Ok, Err}
use Rattle.std.proofs.Common.{append_assoc}
use mathlib.Core.Path.{◌≡◌, refl, sym, ap, ap₂, ◌∙◌}
use mathlib.Core.Bool.{true, false}
use mathlib.Core.List.{List, [], ◌∷◌, ◌++◌}
use Prim.Native.Nat.{ℕ, ◌+◌, ◌-◌, ◌≤◌}
use native.Mathlib.Nat.{zero-add}
use native.Mathlib.Omega.{arith}
use borrow.Author.Tests.{eqb-true, leb-true, leb-false}
use lib.ListN.{length, take, drop, set, length-append, length-drop, length-set}
use lib.Seq.{take_all}
use Rattle.base.specs.Parts.{fits_in, pasted, copied}
use Rattle.base.proofs.Parts.{length_pasted, pasted_append, set_pasted, paste_all, copied_fits}
use Rattle.refusals.specs.declared.Refusal.TheVariants.{BufferOverflow, BadState}
use Rattle.writing.specs.Writing.{bytes, written_row, write_of}
use Rattle.writing.proofs.Writing.{writes, overflows, refuses}
use Rattle.groups.specs.Groups.{groups}
use Rattle.groups.specs.Writing.{put_of}
use Rattle.groups.specs.declared.Fault.{Fault}
use Rattle.groups.specs.Reading.{NumberRead, unfinished, ends, malformed, read, front_of, numbered}
use Rattle.groups.proofs.Laws.{found, put_fits}
use Rattle.reading.specs.Positions.{greatest, is_within}
use Rattle.stream.specs.Places.{held_in}
use Rattle.stream.proofs.Held.{length_held}
use Rattle.saved.specs.Form.{held_form, is_held_form, number_at, behind_number, held_bytes, mark, saved_form, can_save, is_marked, position_in, older_in, is_form}
use Rattle.saved.specs.Save.{save_image, restored_row, restore_of}
use Rattle.saved.proofs.Forms.{accepted}
use Rattle.saved.proofs.Marked.{marked_is}
use Rattle.saved.proofs.Laws.{can_save_lem}

-- ---- what stands before the older form

module _ (form : List ℕ) where
  pub unmarked : is_marked form ≡ false → (0 ≡ position_in form) × (form ≡ older_in form)
  unfolding position_in older_in
  unmarked e = (simp e, simp e)

  pub not_empty : is_marked form ≡ true → 1 ≤ length form
  unfolding is_marked
  not_empty = by form
    where
      by : (f : List ℕ) → is_marked f ≡ true → 1 ≤ length f
      by [] e = let z = eqb-true 0 mark e in absurd (omega arith)
      by (b ∷ f) e = omega arith

  -- what stands behind the mark, as the code lends it on
  abbrev behind : List ℕ
  behind = take (length form - 1) (drop 1 form)

  module _ (marked : is_marked form ≡ true) where
    at_number : (r : NumberRead) → read greatest behind ≡ r → (number_at r ≡ position_in form) × (behind_number r ≡ older_in form)
    unfolding position_in older_in
    at_number r e =
        let lent : behind ≡ drop 1 form = take_all (length form - 1) (drop 1 form) (omega (arith, length-drop 1 form)) in
        let q = ap (read greatest) (sym lent) ∙ e in
        (simp (marked, q), simp (marked, q))

    -- a number stands there
    pub marked_inside : {n k : ℕ} → numbered n k ≡ front_of (length behind) (read greatest behind) → k ≤ length behind
    marked_inside e = (found greatest behind e).inside

    pub marked_number : {n k : ℕ} → numbered n k ≡ front_of (length behind) (read greatest behind)
        → (n ≡ position_in form) × (take (length behind - k) (drop k behind) ≡ older_in form)
    unfolding number_at behind_number
    marked_number {n} {k} e =
        let parts = at_number (ends n (drop k behind)) (found greatest behind e).reading in
        (parts.0, take_all (length behind - k) (drop k behind) (omega (arith, length-drop k behind)) ∙ parts.1)

    no_number : {f : Fault} (r : NumberRead) → read greatest behind ≡ r → Err f ≡ front_of (length behind) r → (0 ≡ position_in form) × ([] ≡ older_in form)
    unfolding front_of number_at behind_number
    no_number (unfinished v w) e q = at_number (unfinished v w) e
    no_number (malformed rest) e q = at_number (malformed rest) e
    no_number (ends n rest) e q = absurd (let z : ◌≡◌ {A = ℕ} 0 1 = cc in omega arith)

    -- or none
    pub marked_malformed : {f : Fault} → Err f ≡ front_of (length behind) (read greatest behind) → (0 ≡ position_in form) × ([] ≡ older_in form)
    marked_malformed = no_number (read greatest behind) refl

-- ---- a save

module _ (places : List ℕ) (start end position : ℕ) (out : List ℕ) where
  pub save_refused : can_save (length places) start end position ≡ false
      → (written_row (Err BadState), out) ≡ write_of (save_image places start end position) out
  unfolding save_image
  save_refused e = simp e (refuses BadState out)

  module _ (good : can_save (length places) start end position ≡ true) {k c : ℕ} (first : k ≡ length (groups position)) (second : c ≡ length (groups (end - start))) where
    abbrev held : List ℕ
    held = held_in places start end

    size : length held ≡ end - start
    size = let s = (can_save_lem (length places) start end position good).span in length_held places start end s.ordered s.inside

    form_is : saved_form position held ≡ (mark ∷ groups position) ++ groups (end - start) ++ held
    unfolding held_form
    form_is = marked_is position held ∙ ap (λ (n : ℕ). mark ∷ (groups position ++ (groups n ++ held))) size ∙ sym (append_assoc (mark ∷ groups position) (groups (end - start)) held)

    form_size : length (saved_form position held) ≡ k + 1 + c + (end - start)
    form_size =
        ap length form_is
        ∙ omega (arith, length-append ((mark ∷ groups position) ++ groups (end - start)) held, length-append (mark ∷ groups position) (groups (end - start)), size)

    image : save_image places start end position ≡ bytes (saved_form position held)
    unfolding save_image
    image = simp good

    pub save_short : fits_in (length out) (k + 1 + c) (end - start) ≡ false
        → (written_row (Err BufferOverflow), out) ≡ write_of (save_image places start end position) out
    save_short short = rw image (overflows (saved_form position held) out (k + 1 + c + (end - start)) form_size (leb-false _ _ short))

    module _ (fits : fits_in (length out) (k + 1 + c) (end - start) ≡ true) where
      room : k + 1 + c + (end - start) ≤ length out
      room = leb-true _ _ fits

      -- the mark, the position behind it, and the older form behind that: its count, and then the held bytes
      pub save_written : {row mid row' last after : List ℕ} → (row, mid) ≡ put_of position 1 (set out 0 mark)
          → (row', last) ≡ put_of (end - start) (k + 1) mid → after ≡ copied last (k + 1 + c) held (end - start)
          → (written_row (Ok (k + 1 + c + (end - start))), after) ≡ write_of (save_image places start end position) out
      save_written {row} {mid} {row'} {last} {after} put count copies =
          let head : List ℕ = mark ∷ groups position in
          let marked : set out 0 mark ≡ pasted out 0 (mark ∷ []) = set_pasted out 0 mark (omega (arith, room)) in
          let at_mark : mid ≡ pasted (set out 0 mark) 1 (groups position) = put_fits position 1 (set out 0 mark) (simp length-set (omega (arith, room))) put in
          let begun : mid ≡ pasted out 0 head =
          at_mark ∙ ap (λ (l : List ℕ). pasted l 1 (groups position)) marked ∙ pasted_append out 0 1 (mark ∷ []) (groups position) refl (omega (arith, room)) in
          let long : length mid ≡ length out = ap length begun ∙ length_pasted out 0 head (omega (arith, room)) in
          let counted : last ≡ pasted out 0 (head ++ groups (end - start)) =
          put_fits (end - start) (k + 1) mid (omega (arith, room)) count
          ∙ ap₂ (λ (l : List ℕ) (j : ℕ). pasted l j (groups (end - start))) begun (sym (zero-add (k + 1)))
          ∙ pasted_append out 0 (k + 1) head (groups (end - start)) (omega arith) (omega (arith, room)) in
          let stands : length (head ++ groups (end - start)) ≡ k + 1 + c = length-append head (groups (end - start)) ∙ omega arith in
          let long' : length last ≡ length out = ap length counted ∙ length_pasted out 0 (head ++ groups (end - start)) (omega (arith, room)) in
          let all : after ≡ pasted out 0 (saved_form position held) =
          copies
          ∙ copied_fits last (k + 1 + c) held (end - start) (omega (arith, room)) (omega (arith, size))
          ∙ paste_all last (k + 1 + c) held (end - start) (sym size)
          ∙ ap₂ (λ (l : List ℕ) (j : ℕ). pasted l j held) counted (sym (zero-add (k + 1 + c)))
          ∙ pasted_append out 0 (k + 1 + c) (head ++ groups (end - start)) held stands (omega (arith, room, size))
          ∙ ap (pasted out 0) (sym form_is) in
          ap (λ (l : List ℕ). (written_row (Ok (k + 1 + c + (end - start))), l)) all
          ∙ rw image (writes (saved_form position held) out (k + 1 + c + (end - start)) form_size room)

-- ---- a restore

module _ (form places : List ℕ) {older : List ℕ} (older_is : older ≡ older_in form) where
  pub restore_none : is_held_form (length places) older ≡ false → (restored_row (Err BadState), places) ≡ restore_of form places
  unfolding restore_of restored_row is_form
  restore_none e = simp (ap (is_held_form (length places)) (sym older_is) ∙ e)

  module _ (good : is_held_form (length places) older ≡ true) {held : List ℕ} (held_is : held ≡ held_bytes (length places) older) where
    pub restore_far : is_within (position_in form) (length held) 0 ≡ false → (restored_row (Err BadState), places) ≡ restore_of form places
    unfolding restore_of restored_row is_form
    restore_far e =
        simp (ap (is_held_form (length places)) (sym older_is) ∙ good, ap (held_bytes (length places)) (sym older_is) ∙ sym held_is, e)

    pub restore_through : {after : List ℕ} → is_within (position_in form) (length held) 0 ≡ true → after ≡ copied places 0 held (length held)
        → (restored_row (Ok (length held)), after) ≡ restore_of form places
    unfolding restore_of restored_row is_form
    restore_through {after} e copies =
        let few = (accepted (length places) older good).few in
        let all : after ≡ pasted places 0 held =
        copies
        ∙ copied_fits places 0 held (length held) (omega (arith, ap length held_is)) (omega arith)
        ∙ paste_all places 0 held (length held) refl in
        simp (ap (is_held_form (length places)) (sym older_is) ∙ good, ap (held_bytes (length places)) (sym older_is) ∙ sym held_is, e, all)
