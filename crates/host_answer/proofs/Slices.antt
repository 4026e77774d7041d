-- What a call of the stream does with the slice that it is lent (RULES 14.6): the answer and the state don't depend on it, and with more, 8 and 12 it stays.
-- Assumes nothing.
use mathlib.Core.Path.{◌≡◌, refl, ap, ◌∙◌}
use mathlib.Core.Bool.{true, false}
use mathlib.Core.List.{List}
use Prim.Native.Nat.{ℕ}
use Rattle.stream.specs.declared.step.Reply.{Reply}
use Rattle.stream.specs.declared.step.Reply.TheVariants.{More}
use Rattle.host_state.specs.State.{is_state}
use Rattle.host_state.specs.Step.{can_number}
use Rattle.host_state.proofs.Laws.{invalid_refused, beyond_refused}
use Rattle.host_answer.specs.Reply.{says_where, told, Calls}

module _ {before input out after outAfter : List ℕ} {r : ℕ} (c : Calls before input out after outAfter r) where
  -- lent any other slice, also one without a place, the call gives the same answer and leaves the same state; the other is told the same
  pub any_slice : (other : List ℕ) → Calls before input other after (told c.answered.reply c.answered.position other) r
  any_slice other = record { answered = c.answered; steps = c.steps; packs = c.packs; tells = refl }

  -- a reply that does not say where it began leaves the slice
  silent : {a : Reply} → says_where a ≡ false → c.answered.reply ≡ a → outAfter ≡ out
  unfolding told
  silent no_place e = c.tells ∙ ap (λ (x : Reply). told x c.answered.position out) e ∙ simp no_place

  pub more_keeps : c.answered.reply ≡ More → outAfter ≡ out
  unfolding says_where
  more_keeps e = silent refl e

  pub bad_state_keeps : is_state before ≡ false → outAfter ≡ out
  unfolding says_where
  bad_state_keeps bad = silent refl (invalid_refused c.steps bad).1

  pub beyond_keeps : is_state before ≡ true → can_number before input ≡ false → outAfter ≡ out
  unfolding says_where
  beyond_keeps good far = silent refl (beyond_refused c.steps good far).1
