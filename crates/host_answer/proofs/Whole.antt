-- What a call answers and leaves at each of its returns.
-- Assumes nothing.
use mathlib.Core.Path.{◌≡◌, refl, sym, ap, ap₂, ◌∙◌}
use mathlib.Core.Bool.{true, false}
use mathlib.Core.List.{List, [], ◌∷◌}
use Prim.Native.Nat.{ℕ, ◌+◌, ◌≤◌}
use native.Mathlib.Nat.{add-zero}
use native.Mathlib.Omega.{arith}
use lib.ListN.{length}
use Rattle.base.specs.Parts.{placed}
use Rattle.numbers.specs.BigEndian.{bytes_of}
use Rattle.refusals.specs.declared.Refusal.TheVariants.{BadState, PositionRange}
use Rattle.reading.specs.Reading.{limit}
use Rattle.reading.specs.Call.{dropped_by, call}
use Rattle.reading.specs.History.{answered}
use Rattle.reading.specs.Positions.{greatest, behind}
use Rattle.reading.proofs.Positions.{behind_call}
use Rattle.stream.specs.Step.{Moves}
use Rattle.stream.specs.declared.step.Reply.TheVariants.{Refused}
use Rattle.stream.specs.declared.step.Replied.{Replied}
use Rattle.numbered.proofs.Within.{within}
use Rattle.numbered.proofs.Counts.{sums, position_is}
use Rattle.host_state.specs.State.{size, position_at, start_in, end_in, places_in, position_in, held_by, has_size, is_state}
use Rattle.host_state.specs.Step.{moved_in, PlacesStep, can_number}
use Rattle.host_state.proofs.States.{has_size_lem, state_size, state_span, places_count}
use Rattle.host_state.proofs.Steps.{Follows, stays_there, goes_there, wrong_size_steps, wrong_span_steps, beyond_steps, state_steps}
use Rattle.host_answer.specs.declared.reply.Told.{Told}
use Rattle.host_answer.specs.Answer.{packed, answer_refusal}
use Rattle.host_answer.specs.Reply.{answer_reply, dropped_in, told_by, says_where, told, Calls}
use Rattle.host_answer.proofs.Fits.{in_bytes_lem, call_fits}
use Rattle.host_answer.proofs.Dropped.{dropped_is, none_told, where_told}

-- ---- refused

module _ (s input out : List ℕ) {r : ℕ} where
  pub wrong_size_call : has_size s ≡ false → r ≡ packed (answer_refusal BadState) → Calls s input out s out r
  unfolding answer_reply told says_where
  wrong_size_call bad e = record { answered = record { position = 0; taken = 0; reply = Refused BadState }; steps = wrong_size_steps s input bad; packs = e; tells = refl }

  pub beyond_call : is_state s ≡ true → can_number s input ≡ false → r ≡ packed (answer_refusal PositionRange) → Calls s input out s out r
  unfolding answer_reply told says_where
  beyond_call good far e =
      record {
        answered = record { position = position_in s; taken = 0; reply = Refused PositionRange };
        steps = beyond_steps s input (has_size_lem s (state_size s good)) (state_span s good) far;
        packs = e;
        tells = refl;
      }

  pub bad_call : has_size s ≡ true → is_state s ≡ false → r ≡ packed (answer_refusal BadState) → Calls s input out s out r
  unfolding answer_reply told says_where is_state
  bad_call fits bad e =
      record {
        answered = record { position = position_in s; taken = 0; reply = Refused BadState };
        steps = wrong_span_steps s input fits (simp fits at bad);
        packs = e;
        tells = refl;
      }

-- ---- answered

module _ {before input mid : List ℕ} {r : Replied} (good : is_state before ≡ true) (can : can_number before input ≡ true) (p : PlacesStep before input mid r) where
  fits : has_size before ≡ true
  fits = has_size_lem before (state_size before good)

  moved : Moves limit (places_in before) (start_in before) (end_in before) input (places_in mid) (moved_in mid r)
  moved = (p.steps fits).moves (state_span before good)

  mid_size : length mid ≡ size
  mid_size = p.same ∙ state_size before good

  drops_is : dropped_in r.reply ≡ dropped_by (call limit (held_by before) input).answer
  drops_is = dropped_is (places_count mid mid_size) moved

  behind_is : behind (position_in before) (answered (call limit (held_by before) input).answer) ≡ position_in before + dropped_in r.reply
  behind_is = behind_call (position_in before) (call limit (held_by before) input).answer ∙ ap (λ (k : ℕ). position_in before + k) (sym drops_is)

  -- the position that the code comes to is one
  pub sum_fits : position_in before + dropped_in r.reply ≤ greatest
  unfolding can_number
  sum_fits =
      let room = within (position_in before) _ (length input) can in
      let s = sums (places_count before (state_size before good)) (p.steps fits).same (state_span before good) moved (position_in before) room in
      let e = position_is (places_count before (state_size before good)) (p.steps fits).same (state_span before good) moved (position_in before) in
      omega (arith, s.position_fits, e, behind_is)

  -- it asks for more
  pub more_call : {n : ℕ} (t : Told) (out : List ℕ) → t ≡ told_by r → t.dropped ≡ 0 → n ≡ t.answer → Calls before input out mid out n
  more_call t out e none is =
      let drop_none : dropped_in r.reply ≡ 0 = sym (ap (λ (x : Told). x.dropped) e) ∙ none in
      let here : behind (position_in before) (answered (call limit (held_by before) input).answer) ≡ position_in before =
      behind_is ∙ ap (λ (k : ℕ). position_in before + k) drop_none ∙ add-zero (position_in before) in
      let steps = state_steps good can p (stays_there p fits here) in
      record {
        answered = record { position = position_in before; taken = r.taken; reply = r.reply };
        steps = steps;
        packs = is ∙ ap (λ (x : Told). x.answer) e ∙ ap packed (in_bytes_lem _ (call_fits steps));
        tells = none_told (places_count mid mid_size) moved (position_in before) out drop_none;
      }

  -- it answers
  pub answer_call_lem : {n b q : ℕ} {after : List ℕ} (t : Told) (out outAfter : List ℕ) → t ≡ told_by r → (t.dropped ≡ 0 → ⊥) → n ≡ t.answer → b ≡ position_in before
      → outAfter ≡ placed out 0 (b ∷ []) → q ≡ b + t.dropped → after ≡ placed mid position_at (bytes_of 8 q) → Calls before input out after outAfter n
  answer_call_lem {n} {b} {q} {after} t out outAfter e some is at tells sum moves =
      let dropped : t.dropped ≡ dropped_in r.reply = ap (λ (x : Told). x.dropped) e in
      let target : q ≡ behind (position_in before) (answered (call limit (held_by before) input).answer) =
      sum ∙ ap₂ (λ (x y : ℕ). x + y) at dropped ∙ sym behind_is in
      let small : behind (position_in before) (answered (call limit (held_by before) input).answer) ≤ greatest = omega (arith, behind_is, sum_fits) in
      let there = moves ∙ ap (λ (k : ℕ). placed mid position_at (bytes_of 8 k)) target in
      let target_of : ℕ = behind (position_in before) (answered (call limit (held_by before) input).answer) in
      let follows : Follows mid after target_of = rw there (goes_there mid target_of mid_size small) in
      let steps = state_steps good can p follows in
      record {
        answered = record { position = position_in before; taken = r.taken; reply = r.reply };
        steps = steps;
        packs = is ∙ ap (λ (x : Told). x.answer) e ∙ ap packed (in_bytes_lem _ (call_fits steps));
        tells = tells ∙ ap (λ (k : ℕ). placed out 0 (k ∷ [])) at ∙ where_told (places_count mid mid_size) moved (position_in before) out (λ z. some (dropped ∙ z));
      }
