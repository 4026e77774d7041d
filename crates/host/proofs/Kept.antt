-- What a reset, a save, a restore, the position and the count of held bytes answer fits a byte.
-- Assumes nothing.
use mathlib.Core.Path.{◌≡◌}
use mathlib.Core.List.{List}
use Prim.Native.Nat.{ℕ, ◌<◌}
use native.Mathlib.Omega.{arith}
use lib.Dec.{lit<}
use lib.ListN.{length, length-take}
use Rattle.base.proofs.Tests.{by_test}
use Rattle.refusals.specs.declared.Refusal.TheVariants.{BadState}
use Rattle.writing.specs.Writing.{write_of}
use Rattle.reading.specs.Reading.{limit}
use Rattle.stream.specs.Places.{held_in}
use Rattle.saved.specs.Form.{can_save, is_form, held_of}
use Rattle.saved.specs.Save.{save_image}
use Rattle.saved.proofs.Marked.{length_saved, taken_form}
use Rattle.saved.proofs.Laws.{can_save_lem}
use Rattle.host_state.specs.State.{start_in, end_in, places_in, position_in, has_size, is_state}
use Rattle.host_state.specs.Saving.{held_row_of, position_image, reset_state, state_image, restore_state}
use Rattle.host_state.proofs.States.{sized, places_count, state_bounds}
use Rattle.host_answer.specs.Answer.{answer_row}
use Rattle.host_answer.proofs.Fits.{Fits, Short, count_fits, refusal_fits, write_fits}

form_short : (places : List ℕ) (start end position : ℕ) → length places ≡ limit → Short (save_image places start end position)
unfolding save_image
form_short places start end position full =
    by_test (can_save (length places) start end position)
    (λ t.
    let z = can_save_lem (length places) start end position t in
    let few : length (held_in places start end) < 128 = rw length-take (omega (arith, z.span.few)) in
    simp t (omega (arith, length_saved position (held_in places start end) (omega (arith, z.fits)) few)))
    (λ t. simp t tt)

save_short : (state : List ℕ) → Short (state_image state)
unfolding state_image
save_short state =
    by_test (has_size state)
    (λ t. simp t (form_short (places_in state) (start_in state) (end_in state) (position_in state) (places_count state (sized state t))))
    (λ t. simp t tt)

module _ (state : List ℕ) where
  pub save_fits : (out : List ℕ) → Fits (answer_row (write_of (state_image state) out).0)
  save_fits out = write_fits (state_image state) out (save_short state)

  pub reset_fits : Fits (answer_row (reset_state state).0)
  unfolding reset_state
  reset_fits = by_test (has_size state) (λ t. simp t (count_fits 0 (lit< tt))) (λ t. simp t (refusal_fits BadState))

  pub restore_fits : (form : List ℕ) → Fits (answer_row (restore_state form state).0)
  unfolding restore_state
  restore_fits form =
      by_test (has_size state)
      (λ t.
      by_test (is_form limit form)
      (λ u. simp (t, u) (count_fits (length (held_of limit form)) (omega (arith, (taken_form limit form u).few))))
      (λ u. simp (t, u) (refusal_fits BadState)))
      (λ t. simp t (refusal_fits BadState))

  pub held_fits : Fits (answer_row (held_row_of state))
  unfolding held_row_of
  held_fits =
      by_test (is_state state) (λ t. simp t (count_fits _ (omega (arith, state_bounds state t)))) (λ t. simp t (refusal_fits BadState))

  position_short : Short (position_image state)
  unfolding position_image
  position_short = by_test (is_state state) (λ t. simp t (lit< tt)) (λ t. simp t tt)

  pub position_fits : (out : List ℕ) → Fits (answer_row (write_of (position_image state) out).0)
  position_fits out = write_fits (position_image state) out position_short
