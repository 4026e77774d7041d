-- What the saved form is for (RULES 9.6): saving then restoring gives the same held bytes and the same position; and a history goes on across a save and a
-- restore (RULES 7.3), with its positions (RULES 18.4).
-- Assumes nothing.
use mathlib.Core.Path.{◌≡◌, refl, sym, ap, ap₂, ◌∙◌, subst}
use mathlib.Core.Bool.{true, false, and-eq-true_iff}
use mathlib.Core.List.{List, ◌++◌}
use Prim.Native.Nat.{ℕ, ◌+◌, ◌-◌, ◌≤◌, ◌<◌}
use native.Mathlib.Nat.{sub-zero}
use native.Mathlib.Omega.{arith}
use lib.Dec.{leb}
use lib.ListN.{length, get_or, take, drop}
use lib.Seq.{take_at}
use Rattle.base.specs.Parts.{pasted}
use Rattle.base.proofs.Parts.{pasted_front}
use Rattle.base.proofs.Tests.{by_test}
use Rattle.refusals.specs.Row.{row_of}
use Rattle.refusals.specs.declared.Refusal.{Refusal}
use Rattle.refusals.specs.declared.Refusal.TheVariants.{BufferOverflow, BadState}
use Rattle.refusals.proofs.Rows.{not_zero}
use Rattle.writing.specs.Writing.{wrote_row, write_of}
use Rattle.reading.specs.Answer.{Answer}
use Rattle.reading.specs.Reading.{reading, ◌⊕◌}
use Rattle.reading.specs.History.{History}
use Rattle.reading.specs.Positions.{greatest, is_within}
use Rattle.reading.proofs.History.{resumed}
use Rattle.stream.specs.Places.{held_in}
use Rattle.stream.proofs.Held.{length_held}
use Rattle.numbered.proofs.Within.{within}
use Rattle.saved.specs.Form.{is_savable, saved_form, can_save, position_in}
use Rattle.saved.specs.Save.{save_image, held_row, restore_of}
use Rattle.saved.proofs.Forms.{Savable, savable}
use Rattle.saved.proofs.Marked.{position_again, form_accepted, held_again}

-- what can be saved
pub record CanSave (m start end position : ℕ) : Type 0 where
  pub span : Savable m start end
  pub fits : position + (end - start) ≤ greatest

pub can_save_lem : (m start end position : ℕ) → can_save m start end position ≡ true → CanSave m start end position
unfolding can_save
can_save_lem m start end position e =
    let both = (and-eq-true_iff (is_savable m start end) (is_within position (end - start) 0)).0 e in
    record { span = savable m start end both.0; fits = let w = within position (end - start) 0 both.1 in omega arith }

-- ---- a save, and then a restore

-- restored places hold the bytes of the form
pub restored_holds : (places held : List ℕ) → held_in (pasted places 0 held) 0 (length held) ≡ held
restored_holds places held =
    ap (λ (k : ℕ). take k (pasted places 0 held)) (sub-zero (length held))
    ∙ ap (take (length held)) (pasted_front places held)
    ∙ take_at held (drop (length held) places) (length held) refl

abbrev Left : Type 0
Left = List ℕ × List ℕ

-- what a save that was not refused has written: the form of what was held, fewer bytes than the limit, and of its position
pub record FormWritten (places : List ℕ) (start end position n : ℕ) (after : List ℕ) : Type 0 where
  pub few : length (held_in places start end) < length places
  pub fits : position + length (held_in places start end) ≤ greatest
  pub form : take n after ≡ saved_form position (held_in places start end)

module _ (places : List ℕ) (start end position : ℕ) (out : List ℕ) {n : ℕ} {after : List ℕ}
    (saves : (wrote_row n, after) ≡ write_of (save_image places start end position) out) where
  abbrev held : List ℕ
  held = held_in places start end

  never : (r : Refusal) → write_of (save_image places start end position) out ≡ (row_of r, out) → ⊥
  never r e = not_zero r (sym (ap (λ (x : Left). x.0) (saves ∙ e)))

  wrote : CanSave (length places) start end position
      → write_of (save_image places start end position) out ≡ (wrote_row (length (saved_form position held)), pasted out 0 (saved_form position held))
      → FormWritten places start end position n after
  wrote s e =
      let size : length held ≡ end - start = length_held places start end s.span.ordered s.span.inside in
      let q = saves ∙ e in
      record {
        few = omega (arith, s.span.few);
        fits = omega (arith, s.fits);
        form = ap₂ take (ap (λ (x : Left). get_or x.0 1 0) q) (ap (λ (x : Left). x.1) q)
            ∙ ap (take (length (saved_form position held))) (pasted_front out (saved_form position held))
            ∙ take_at (saved_form position held) (drop (length (saved_form position held)) out) (length (saved_form position held)) refl;
      }

  at_bad : can_save (length places) start end position ≡ false → write_of (save_image places start end position) out ≡ (row_of BadState, out)
  unfolding save_image write_of
  at_bad bad = simp bad

  at_short : can_save (length places) start end position ≡ true → leb (length (saved_form position held)) (length out) ≡ false
      → write_of (save_image places start end position) out ≡ (row_of BufferOverflow, out)
  unfolding save_image write_of
  at_short good short = simp (good, short)

  at_room : can_save (length places) start end position ≡ true → leb (length (saved_form position held)) (length out) ≡ true
      → write_of (save_image places start end position) out ≡ (wrote_row (length (saved_form position held)), pasted out 0 (saved_form position held))
  unfolding save_image write_of
  at_room good room = simp (good, room)

  pub written : FormWritten places start end position n after
  written =
      by_test (can_save (length places) start end position)
      (λ good.
      by_test (leb (length (saved_form position held)) (length out))
      (λ room. wrote (can_save_lem (length places) start end position good) (at_room good room))
      (λ short. absurd (never BufferOverflow (at_short good short))))
      (λ bad. absurd (never BadState (at_bad bad)))

  -- saving then restoring gives the same held bytes, in any places that are as many
  pub save_then_restore : (other : List ℕ) → length other ≡ length places
      → restore_of (take n after) other ≡ (held_row (length held), pasted other 0 held)
  unfolding restore_of
  save_then_restore other same =
      let w = written in
      let few : length held < length other = omega (arith, w.few) in
      ap (λ (f : List ℕ). restore_of f other) w.form
      ∙ simp (form_accepted position held (length other) few w.fits, held_again position held (length other) few w.fits)

  -- and the same position
  pub position_kept : position_in (take n after) ≡ position
  position_kept = let w = written in ap position_in w.form ∙ position_again position held (omega (arith, w.fits))

  -- histories go on: the answers before the save and those after the restore, which is offered what was unread and then more, are the stream's
  pub goes_on_restored : (other : List ℕ) → length other ≡ length places → {k : ℕ} {restored : List ℕ}
      → (held_row k, restored) ≡ restore_of (take n after) other
      → {m : ℕ} {stream unread held₂ unread₂ : List ℕ} {given given₂ : List Answer} (more : List ℕ)
      → History m stream (held_in places start end) unread given
      → History m (held_in restored 0 k ++ unread ++ more) held₂ unread₂ given₂
      → reading m (stream ++ more) ≡ (given ++ given₂) ⊕ reading m (held₂ ++ unread₂)
  goes_on_restored other same {k} {restored} e {m} {unread = unread} {held₂} {unread₂} {given₂ = given₂} more before later =
      let q = e ∙ save_then_restore other same in
      let holds : held_in restored 0 k ≡ held =
      ap₂ (λ (l : List ℕ) (j : ℕ). held_in l 0 j) (ap (λ (x : Left). x.1) q) (ap (λ (x : Left). get_or x.0 1 0) q) ∙ restored_holds other held in
      resumed more before (subst (λ (l : List ℕ). History m (l ++ unread ++ more) held₂ unread₂ given₂) holds later)
