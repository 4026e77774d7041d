-- What the definitions are for: what is not a valid state, or can't be numbered, is refused and stays; a reset state holds nothing, and stands at 0; the
-- count is that of the held bytes; a save depends on the held bytes and the position alone; what was saved and is restored is held, and stands where it
-- did; and a call over a state is a call of the reading (RULES 7, 9, 14, 18).
-- Assumes nothing.
use mathlib.Core.Path.{◌≡◌, refl, sym, ap, ap₂, ◌∙◌}
use mathlib.Core.Bool.{Bool, true, false, ◌&&◌}
use mathlib.Core.List.{List, []}
use Prim.Native.Nat.{ℕ, ◌+◌, ◌-◌, ◌≤◌, ◌<◌}
use native.Mathlib.Omega.{arith}
use borrow.Author.Tests.{lt-ltb, le-leb}
use lib.Dec.{ltb}
use lib.ListN.{length, get_or, take}
use Rattle.base.specs.Choice.{when◌then◌else◌}
use Rattle.base.specs.Parts.{pasted}
use Rattle.base.proofs.Parts.{length_pasted}
use Rattle.base.proofs.Tests.{by_test}
use Rattle.numbers.specs.BigEndian.{bytes_of}
use Rattle.numbers.proofs.BigEndian.{length_bytes_of}
use Rattle.refusals.specs.declared.Refusal.TheVariants.{BadState, PositionRange}
use Rattle.refusals.proofs.Rows.{not_zero}
use Rattle.writing.specs.Writing.{Image, bytes, refused, wrote_row, write_of}
use Rattle.reading.specs.Reading.{limit}
use Rattle.reading.specs.Call.{call}
use Rattle.reading.specs.History.{answered}
use Rattle.reading.specs.Positions.{greatest, behind, is_within}
use Rattle.stream.specs.Places.{held_in}
use Rattle.stream.specs.Step.{is_span, Moves, Steps}
use Rattle.stream.specs.declared.step.Reply.TheVariants.{Refused}
use Rattle.stream.proofs.Held.{length_held}
use Rattle.numbered.specs.declared.Advanced.{Advanced}
use Rattle.numbered.specs.declared.Answered.{Answered}
use Rattle.numbered.proofs.Within.{is_within_lem}
use Rattle.numbered.proofs.Steps.{as_steps, still_at}
use Rattle.saved.specs.Form as forms
use Rattle.saved.specs.Form.{saved_form, is_savable, can_save, is_form, held_of}
use Rattle.saved.specs.Save.{save_image, held_row}
use Rattle.saved.proofs.Marked.{position_again, form_accepted, held_again, taken_form}
use Rattle.saved.proofs.Laws as saved
use Rattle.saved.proofs.Laws.{restored_holds}
use Rattle.host_state.specs.State.{state_of, start_in, end_in, places_in, position_in, held_by, has_size, is_state}
use Rattle.host_state.specs.Step.{can_number, advanced_in, StateSteps}
use Rattle.host_state.specs.Saving.{held_row_of, position_image, reset_state, state_image, restore_state}
use Rattle.host_state.proofs.States.{sized, has_size_lem, state_size, state_span, is_state_lem, state_bounds, places_count, places_of, position_of_lem, size_of}

-- a valid state that holds these bytes, and stands there
pub record Holds (s held : List ℕ) (position : ℕ) : Type 0 where
  pub valid : is_state s ≡ true
  pub holds : held_by s ≡ held
  pub stands : position_in s ≡ position

-- ---- a call

module _ {before input after : List ℕ} {r : Answered} (steps : StateSteps before input after r) where
  wrong_span : has_size before ≡ true → is_span limit (start_in before) (end_in before) ≡ false
      → (r.taken ≡ 0) × (r.reply ≡ Refused BadState)
  wrong_span fits bad =
      let moved = ((steps.steps fits).refuses bad).0 in
      (ap (λ (m : Advanced). m.moved.taken) moved, ap (λ (m : Advanced). m.moved.reply) moved)

  -- what is not a valid state is refused with 8, takes nothing, and stays
  pub invalid_refused : is_state before ≡ false → (r.taken ≡ 0) × (r.reply ≡ Refused BadState) × (after ≡ before)
  unfolding is_state
  invalid_refused bad =
      let kept = steps.kept (ap (λ (b : Bool). b && can_number before input) bad) in
      by_test (has_size before)
      (λ fits. let w = wrong_span fits (simp fits at bad) in (w.0, w.1, kept))
      (λ wrong. let w = (steps.refuses wrong).0 in (ap (λ (x : Answered). x.taken) w, ap (λ (x : Answered). x.reply) w, kept))

  -- a valid state whose input can't be numbered is refused with 12, takes nothing, and stays
  pub beyond_refused : is_state before ≡ true → can_number before input ≡ false → (r.taken ≡ 0) × (r.reply ≡ Refused PositionRange) × (after ≡ before)
  unfolding can_number
  beyond_refused good far =
      let fits = has_size_lem before (state_size before good) in
      let moved = ((steps.steps fits).beyond (state_span before good) far).0 in (
        ap (λ (m : Advanced). m.moved.taken) moved,
        ap (λ (m : Advanced). m.moved.reply) moved,
        steps.kept (ap₂ ◌&&◌ good far),
      )

  -- a valid state stays one
  pub still_state : is_state before ≡ true → is_state after ≡ true
  still_state good =
      let long = state_size before good in
      is_state_lem after (steps.same ∙ long) (still_at (steps.steps (has_size_lem before long)) (state_span before good))

  module _ (good : is_state before ≡ true) (can : can_number before input ≡ true) where
    -- a call is a step of a run over its places
    pub moves : Moves limit (places_in before) (start_in before) (end_in before) input (places_in after) (advanced_in after r).moved
    unfolding can_number
    moves = (steps.steps (has_size_lem before (state_size before good))).moves (state_span before good) can

    pub as_steps_in : Steps limit (places_in before) (start_in before) (end_in before) input (places_in after) (advanced_in after r).moved
    unfolding can_number
    as_steps_in = as_steps (state_span before good) can (steps.steps (has_size_lem before (state_size before good)))

    -- it stands behind its answer, if it gives one
    pub goes_to : position_in after ≡ behind (position_in before) (answered (call limit (held_by before) input).answer)
    unfolding can_number
    goes_to = (steps.steps (has_size_lem before (state_size before good))).counts (state_span before good) can

-- ---- the count of held bytes, and a reset

module _ (s : List ℕ) (good : is_state s ≡ true) where
  pub counted : length (held_by s) ≡ end_in s - start_in s
  counted =
      let bounds = state_bounds s good in
      length_held (places_in s) (start_in s) (end_in s) bounds.0 (omega (arith, places_count s (state_size s good)))

  pub count_is_held : held_row_of s ≡ held_row (length (held_by s))
  unfolding held_row_of
  count_is_held = simp good (ap held_row (sym counted))

-- a state put together of parts that fit
put_together : (a b : ℕ) (ys : List ℕ) (p : ℕ) → length ys ≡ limit → is_span limit a b ≡ true → p ≤ greatest → Holds (state_of a b ys p) (held_in ys a b) p
put_together a b ys p full span small =
    record {
      valid = is_state_lem (state_of a b ys p) (size_of a b ys full (bytes_of 8 p) (length_bytes_of 8 p)) span;
      holds = ap (λ (l : List ℕ). held_in l a b) (places_of a b ys full (bytes_of 8 p));
      stands = position_of_lem a b ys full p small;
    }

-- a reset state holds nothing, and stands at 0
pub reset_holds_nothing : (s : List ℕ) → has_size s ≡ true → Holds (reset_state s).1 [] 0
unfolding reset_state
reset_holds_nothing s fits = simp fits (put_together 0 0 (places_in s) 0 (places_count s (sized s fits)) refl (omega arith))

-- ---- the position

-- what is given is where the state stands
pub position_is_given : (s out : List ℕ) → is_state s ≡ true → 1 ≤ length out → get_or (write_of (position_image s) out).1 0 0 ≡ position_in s
unfolding position_image write_of pasted
position_is_given s out good some = simp (good, le-leb 1 (length out) some) refl

-- ---- a save

-- what a save writes depends on the held bytes and the position alone
abbrev pub image_of : ℕ → List ℕ → Image
image_of position held =
    when ltb (length held) limit && is_within position (length held) 0 then bytes (saved_form position held) else refused BadState

pub image_by_held : (s : List ℕ) → is_state s ≡ true → state_image s ≡ image_of (position_in s) (held_by s)
unfolding state_image save_image can_save is_savable
image_by_held s good =
    let long = state_size s good in
    let bounds = state_bounds s good in
    simp (has_size_lem s long, places_count s long, counted s good, le-leb (start_in s) (end_in s) bounds.0, le-leb (end_in s) limit bounds.1)

pub saves_held : (s : List ℕ) {held : List ℕ} {position : ℕ} → Holds s held position → length held < limit → position + length held ≤ greatest
    → state_image s ≡ bytes (saved_form position held)
saves_held s {held} {position} h few fits =
    image_by_held s h.valid
    ∙ ap₂ image_of h.stands h.holds
    ∙ simp (lt-ltb (length held) limit few, is_within_lem position (length held) 0 (omega arith))

-- equal held bytes and positions, equal forms
pub same_image : (s t : List ℕ) {held : List ℕ} {position : ℕ} → Holds s held position → Holds t held position → state_image s ≡ state_image t
same_image s t p q =
    image_by_held s p.valid
    ∙ ap₂ image_of (p.stands ∙ sym q.stands) (p.holds ∙ sym q.holds)
    ∙ sym (image_by_held t q.valid)

-- a state that stands too far is still one, but is not saved
pub too_far_unsaved : (s : List ℕ) → is_state s ≡ true → is_within (position_in s) (length (held_by s)) 0 ≡ false → state_image s ≡ refused BadState
too_far_unsaved s good far =
    image_by_held s good ∙ by_test (ltb (length (held_by s)) limit) (λ t. simp (t, far)) (λ t. simp t)

-- ---- a restore

module _ (s : List ℕ) (fits : has_size s ≡ true) where
  -- a form that is accepted is held, and stands where it says
  pub restored_form : (form : List ℕ) → is_form limit form ≡ true
      → ((restore_state form s).0 ≡ held_row (length (held_of limit form))) × Holds (restore_state form s).1 (held_of limit form) (forms.position_in form)
  unfolding restore_state
  restored_form form good =
      let t = taken_form limit form good in
      let held = held_of limit form in
      let places = places_count s (sized s fits) in
      let few : length held < limit = t.few in
      let long : length (pasted (places_in s) 0 held) ≡ limit = length_pasted (places_in s) 0 held (omega arith) ∙ places in
      let span : is_span limit 0 (length held) ≡ true = simp (le-leb 0 (length held) (omega arith), le-leb (length held) limit (omega arith)) in
      let h = put_together 0 (length held) (pasted (places_in s) 0 held) (forms.position_in form) long span (omega (arith, t.fits)) in
      simp (fits, good) (refl, record { valid = h.valid; holds = h.holds ∙ restored_holds (places_in s) held; stands = h.stands })

  -- so is the saved form of fewer bytes than the limit, at any position where they can be numbered
  pub restored_held : (position : ℕ) (held : List ℕ) → length held < limit → position + length held ≤ greatest
      → ((restore_state (saved_form position held) s).0 ≡ held_row (length held)) × Holds (restore_state (saved_form position held) s).1 held position
  restored_held position held few far =
      let again = held_again position held limit few far in
      let at = position_again position held (omega arith) in
      let r = restored_form (saved_form position held) (form_accepted position held limit few far) in (
        r.0 ∙ ap (λ (l : List ℕ). held_row (length l)) again,
        record { valid = r.1.valid; holds = r.1.holds ∙ again; stands = r.1.stands ∙ at },
      )

  -- what a save wrote, restored into any state of the right length, is what was held, and where
  pub carried : (from out : List ℕ) {n : ℕ} {after : List ℕ} → (wrote_row n, after) ≡ write_of (state_image from) out
      → Holds (restore_state (take n after) s).1 (held_by from) (position_in from)
  unfolding state_image write_of
  carried from out {n} {after} saves = by_test (has_size from) whole none
    where
      whole : has_size from ≡ true → Holds (restore_state (take n after) s).1 (held_by from) (position_in from)
      whole long =
          let e : state_image from ≡ save_image (places_in from) (start_in from) (end_in from) (position_in from) = simp long in
          let w = saved.written (places_in from) (start_in from) (end_in from) (position_in from) out (saves ∙ ap (λ (i : Image). write_of i out) e) in
          let h = (restored_held (position_in from) (held_by from) (omega (arith, w.few, places_count from (sized from long))) w.fits).1 in
          rw w.form h

      none : has_size from ≡ false → Holds (restore_state (take n after) s).1 (held_by from) (position_in from)
      none wrong =
          let e : state_image from ≡ refused BadState = simp wrong in
          absurd (not_zero BadState (sym (ap (λ (x : List ℕ × List ℕ). x.0) (saves ∙ ap (λ (i : Image). write_of i out) e))))
