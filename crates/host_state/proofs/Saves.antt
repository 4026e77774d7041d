-- What the position, a reset, a save and a restore answer and leave, from what those over the places answered and left.
-- Assumes nothing.
use Rattle.std.specs.Prelude.{Ok, Err}
use mathlib.Core.Path.{◌≡◌, refl, sym, ap, ap₂, ◌∙◌}
use mathlib.Core.Bool.{true, false}
use mathlib.Core.List.{List, [], ◌∷◌}
use Prim.Native.Nat.{ℕ, ◌≤◌, ◌<◌, ◌%◌}
use native.Mathlib.Nat.{mod-eq_of_lt}
use native.Mathlib.Omega.{arith}
use lib.ListN.{length, get_or, set}
use Rattle.base.specs.Parts.{pasted, placed}
use Rattle.base.proofs.Parts.{set_pasted}
use Rattle.base.proofs.Tests.{by_test}
use Rattle.refusals.specs.Row.{row_of}
use Rattle.refusals.specs.declared.Refusal.{Refusal}
use Rattle.refusals.specs.declared.Refusal.TheVariants.{BufferOverflow, BadState}
use Rattle.refusals.proofs.Rows.{not_zero}
use Rattle.writing.specs.Writing.{bytes, written_row, write_of}
use Rattle.writing.proofs.Writing.{writes, overflows}
use Rattle.reading.specs.Reading.{limit}
use Rattle.numbers.specs.BigEndian.{bytes_of}
use Rattle.saved.specs.Form as forms
use Rattle.saved.specs.Form.{is_form, held_of}
use Rattle.saved.specs.Save.{held_row, restored_row, restore_of}
use Rattle.saved.proofs.Marked.{taken_form}
use Rattle.host_state.specs.State.{size, position_at, state_of, places_in, position_in, is_state}
use Rattle.host_state.specs.Saving.{position_image, reset_state, restore_state}
use Rattle.host_state.proofs.States as states
use Rattle.host_state.proofs.States.{has_size_lem, places_count, all_written, state_written, written_same}

abbrev Left : Type 0
Left = List ℕ × List ℕ

-- ---- the position

module _ (s : List ℕ) where
  module _ (out : List ℕ) (good : is_state s ≡ true) where
    at_position : position_image s ≡ bytes (position_in s ∷ [])
    unfolding position_image
    at_position = simp good

    pub position_short : length out < 1 → (written_row (Err BufferOverflow), out) ≡ write_of (position_image s) out
    position_short none = rw at_position (overflows (position_in s ∷ []) out 1 refl none)

    pub position_given : {q : ℕ} → 1 ≤ length out → q ≡ position_in s → (written_row (Ok 1), set out 0 q) ≡ write_of (position_image s) out
    position_given {q} some e =
        ap (λ (k : ℕ). (written_row (Ok 1), set out 0 k)) e
        ∙ ap (λ (l : List ℕ). (written_row (Ok 1), l)) (set_pasted out 0 (position_in s) some)
        ∙ rw at_position (writes (position_in s ∷ []) out 1 refl some)

-- ---- done

module _ (s : List ℕ) (fits : length s ≡ size) where
  pub reset_done : {after : List ℕ} → after ≡ placed (set (set s 0 0) 1 0) position_at (bytes_of 8 0) → (restored_row (Ok 0), after) ≡ reset_state s
  unfolding reset_state restored_row
  reset_done e = simp (has_size_lem s fits) (ap (λ (l : List ℕ). (held_row 0, l)) (e ∙ state_written s fits 0 0 0))

  module _ (form : List ℕ) where
    at_good : is_form limit form ≡ true
        → restore_of form (places_in s) ≡ (held_row (length (held_of limit form)), pasted (places_in s) 0 (held_of limit form))
    unfolding restore_of
    at_good good = simp (places_count s fits, good)

    at_bad : is_form limit form ≡ false → restore_of form (places_in s) ≡ (row_of BadState, places_in s)
    unfolding restore_of
    at_bad bad = simp (places_count s fits, bad)

    restores : is_form limit form ≡ true
        → restore_state form s
        ≡ (held_row (length (held_of limit form)), state_of 0 (length (held_of limit form)) (pasted (places_in s) 0 (held_of limit form)) (forms.position_in form))
    unfolding restore_state
    restores good = simp (has_size_lem s fits, good)

    module _ {ys : List ℕ} (full : length ys ≡ limit) where
      pub restore_done : (n : ℕ) {b q : ℕ} {after : List ℕ} → (restored_row (Ok n), ys) ≡ restore_of form (places_in s) → b ≡ n % 256 → q ≡ forms.position_in form
          → after ≡ placed (set (set (states.written s fits ys full) 0 0) 1 b) position_at (bytes_of 8 q)
          → (restored_row (Ok n), after) ≡ restore_state form s
      unfolding restored_row
      restore_done n {b} {q} {after} e low at put =
          by_test (is_form limit form)
          (λ good.
          let r = e ∙ at_good good in
          let count : n ≡ length (held_of limit form) = ap (λ (x : Left). get_or x.0 1 0) r in
          let few : n < 256 = omega (arith, (taken_form limit form good).few) in
          let end : b ≡ length (held_of limit form) = low ∙ mod-eq_of_lt few ∙ count in
          let places : ys ≡ pasted (places_in s) 0 (held_of limit form) = ap (λ (x : Left). x.1) r in
          ap (λ (l : List ℕ). (held_row n, l)) (put ∙ all_written s fits ys full 0 b q)
          ∙ ap₂ (λ (x : ℕ) (l : List ℕ). (held_row x, l)) count
          (ap₂ (λ (x : ℕ) (l : List ℕ). state_of 0 x l q) end places ∙ ap (state_of 0 (length (held_of limit form)) (pasted (places_in s) 0 (held_of limit form))) at)
          ∙ sym (restores good))
          (λ bad. absurd (not_zero BadState (sym (ap (λ (x : Left). x.0) (e ∙ at_bad bad)))))

      pub restore_kept : (r : Refusal) → (restored_row (Err r), ys) ≡ restore_of form (places_in s)
          → (restored_row (Err r), states.written s fits ys full) ≡ restore_state form s
      unfolding restored_row restore_state
      restore_kept r e =
          by_test (is_form limit form)
          (λ good. absurd (not_zero r (ap (λ (x : Left). x.0) (e ∙ at_good good))))
          (λ bad.
          let q = e ∙ at_bad bad in
          simp (has_size_lem s fits, bad)
          (ap₂ (λ (row l : List ℕ). (row, l)) (ap (λ (x : Left). x.0) q) (written_same s fits ys full (ap (λ (x : Left). x.1) q))))
