-- Each public function's promise leaves one answer, and one content of each buffer lent to be written. Of a call it leaves one of all that is seen,
-- and on refusal all of the state.
-- Assumes nothing.
use mathlib.Core.Path.{◌≡◌, refl, sym, ap, ap₂, ◌∙◌}
use mathlib.Core.Bool.{Bool, true, false, ◌&&◌, and-eq-true_iff}
use mathlib.Core.List.{List, [], ◌∷◌, ◌++◌}
use Prim.Native.Nat.{ℕ}
use lib.Dec.{eqb}
use lib.ListN.{length}
use Rattle.base.specs.Parts.{part}
use Rattle.base.proofs.Tests.{by_test}
use Rattle.base.proofs.Unique.{OneAnswer, same}
use Rattle.refusals.specs.Row.{number_of}
use Rattle.refusals.specs.declared.Refusal.TheVariants.{BadState}
use Rattle.writing.specs.Writing.{Written}
use Rattle.writing.proofs.Rows.{one_write}
use Rattle.reading.specs.Reading.{limit}
use Rattle.stream.specs.Step.{is_span}
use Rattle.stream.specs.Seen.{Seen, if_refused, seen}
use Rattle.stream.specs.declared.step.Reply.{Reply}
use Rattle.stream.specs.declared.step.Reply.TheVariants.{More, Frame, Refused}
use Rattle.stream.specs.declared.step.Replied.{Replied}
use Rattle.stream.proofs.Unique.{says_framing, not_refused, one_seen}
use Rattle.numbered.specs.Seen.{SeenAt}
use Rattle.numbered.specs.declared.Advanced.{Advanced}
use Rattle.numbered.specs.declared.Answered.{Answered}
use Rattle.numbered.proofs.Unique.{not_beyond, one_seen_at}
use Rattle.saved.specs.Save.{Restored}
use Rattle.saved.proofs.Rows.{one_restored, one_restore}
use Rattle.host_state.specs.State.{size, position_at, start_in, end_in, places_in, position_in, has_size, is_state}
use Rattle.host_state.specs.Step.{moved_in, PlacesStep, can_number, advanced_in, StateSteps}
use Rattle.host_state.specs.Seen.{SeenPlaces, seen_places, SeenState, seen_state}
use Rattle.host_state.proofs.States.{sized, has_size_lem, state_size, places_count, whole}
use Rattle.host_state.proofs.Laws.{moves}
use Rattle.host_state.proofs.has_size.Reads as has-size'
use Rattle.host_state.proofs.is_state.Reads as is_state
use Rattle.host_state.proofs.position_of.Reads as position_of_lem
use Rattle.host_state.proofs.move_to.Reads as move-to
use Rattle.host_state.proofs.is_beyond.Reads as is-beyond
use Rattle.host_state.proofs.step.Reads as step
use Rattle.host_state.proofs.held.Reads as held
use Rattle.host_state.proofs.position.Reads as position
use Rattle.host_state.proofs.reset.Reads as reset
use Rattle.host_state.proofs.save.Reads as save
use Rattle.host_state.proofs.restore.Reads as restore

pub is_state_one : OneAnswer {Seen = Bool} is_state.Post (λ κs r s. r)
is_state_one κs a r r' s s' = same

pub has_size_one : OneAnswer {Seen = Bool} has-size'.Post (λ κs r s. r)
has_size_one κs a r r' s s' = same

pub position_of_one : OneAnswer {Seen = ℕ} position_of_lem.Post (λ κs r s. r)
position_of_one κs a r r' s s' = same

pub move_to_one : OneAnswer {Seen = List ℕ} move-to.Post (λ κs r s. s.0.now)
move_to_one κs a r r' s s' = same

pub is_beyond_one : OneAnswer {Seen = Bool} is-beyond.Post (λ κs r s. r)
is_beyond_one κs a r r' s s' = same

-- ---- a call over the places

-- a state is its start, its end, its places and its position
abbrev with_bytes : List ℕ → List ℕ → List ℕ
with_bytes [] bytes = []
with_bytes (x ∷ l) bytes = x ∷ l ++ bytes

whole_by : (reply : Reply) (a b : ℕ) (ys bytes : List ℕ) → if_refused reply (a ∷ b ∷ (ys ++ bytes)) ≡ with_bytes (if_refused reply (a ∷ b ∷ ys)) bytes
unfolding if_refused
whole_by More a b ys bytes = refl
whole_by (Frame p) a b ys bytes = refl
whole_by (Refused r) a b ys bytes = by_test (eqb (number_of r) (number_of BadState)) (λ t. simp t) (λ t. simp t)

whole_seen : (r : Replied) (state : List ℕ) → length state ≡ size
    → if_refused r.reply state ≡ with_bytes (seen (moved_in state r) (places_in state)).refused (part state position_at 8)
unfolding seen
whole_seen r state fits =
    ap (if_refused r.reply) (whole state fits) ∙ whole_by r.reply (start_in state) (end_in state) (places_in state) (part state position_at 8)

seen_eq : {x y : Seen} {k l p q : List ℕ} → x ≡ y → k ≡ l → p ≡ q
    → ◌≡◌ {A = SeenPlaces} (record { call = x; refused = k; position = p }) (record { call = y; refused = l; position = q })
seen_eq u v w = cc

pub one_step : (before input : List ℕ) {after after' : List ℕ} {r r' : Replied} → PlacesStep before input after r → PlacesStep before input after' r'
    → seen_places r after ≡ seen_places r' after'
one_step before input {after} {after'} {r} {r'} a b =
    by_test (has_size before)
    (λ fits.
    let long = sized before fits in
    let one = one_seen limit (places_in before) (start_in before) (end_in before) input (places_count before long) (a.steps fits) (b.steps fits) in
    let bytes = same (a.stands fits) (b.stands fits) in
    seen_eq one
    (whole_seen r after (a.same ∙ long) ∙ ap₂ (λ (x : Seen) (y : List ℕ). with_bytes x.refused y) one bytes ∙ sym (whole_seen r' after' (b.same ∙ long)))
    bytes)
    (λ wrong.
    let p = a.refuses wrong in
    let q = b.refuses wrong in
    ap₂ seen_places (same p.0 q.0) (same p.1 q.1))

pub step_one : OneAnswer {Seen = SeenPlaces} step.Post (λ κs r s. seen_places r s.0.now)
step_one κs a r r' s s' = one_step a.0.now a.1.0.now

-- ---- a call with its position

module _ (before input : List ℕ) {after after' : List ℕ} {r r' : Answered} (a : StateSteps before input after r) (b : StateSteps before input after' r') where
  answered_eq : {p p' t t' : ℕ} {x x' : Reply} → p ≡ p' → t ≡ t' → x ≡ x'
      → ◌≡◌ {A = Answered} (record { position = p; taken = t; reply = x }) (record { position = p'; taken = t'; reply = x' })
  answered_eq u v w = cc

  by_advanced : has_size before ≡ true → advanced_in after r ≡ advanced_in after' r' → r ≡ r'
  by_advanced fits e =
      answered_eq (same (a.began fits) (b.began fits)) (ap (λ (x : Advanced). x.moved.taken) e) (ap (λ (x : Advanced). x.moved.reply) e)

  -- refused: the same answer
  refused_same : (is_state before && can_number before input) ≡ false → r ≡ r'
  unfolding is_state can_number
  refused_same none =
      by_test (has_size before)
      (λ fits.
      by_test (is_span limit (start_in before) (end_in before))
      (λ span.
      let far = simp (fits, span) at none in
      by_advanced fits (same ((a.steps fits).beyond span far).0 ((b.steps fits).beyond span far).0))
      (λ bad. by_advanced fits (same ((a.steps fits).refuses bad).0 ((b.steps fits).refuses bad).0)))
      (λ wrong. same (a.refuses wrong).0 (b.refuses wrong).0)

  state_eq : {x y : SeenAt} {k l : List ℕ} {p q : ℕ} → x ≡ y → k ≡ l → p ≡ q
      → ◌≡◌ {A = SeenState} (record { call = x; refused = k; began = p }) (record { call = y; refused = l; began = q })
  state_eq u v w = cc

  pub one_state_step : seen_state r after ≡ seen_state r' after'
  one_state_step =
      by_test (is_state before && can_number before input)
      (λ all.
      let both = (and-eq-true_iff (is_state before) (can_number before input)).0 all in
      let fits = has_size_lem before (state_size before both.0) in
      let p = says_framing (moves a both.0 both.1) in
      let q = says_framing (moves b both.0 both.1) in
      let none = ap₂ (λ (x y : List ℕ). x ++ y) (not_refused input (places_in after) after r.reply p) (not_beyond input (places_in after) after r.reply p) in
      let none' = ap₂ (λ (x y : List ℕ). x ++ y) (not_refused input (places_in after') after' r'.reply q) (not_beyond input (places_in after') after' r'.reply q) in
      state_eq
      (one_seen_at limit (places_in before) (start_in before) (end_in before) (position_in before) input (places_count before (sized before fits)) (a.steps fits) (b.steps fits))
      (none ∙ sym none')
      (same (a.began fits) (b.began fits)))
      (λ none. ap₂ seen_state (refused_same none) (same (a.kept none) (b.kept none)))

-- ---- the others

pub held_one : OneAnswer {Seen = Restored} held.Post (λ κs r s. r)
held_one κs a r r' s s' p q = one_restored (same p q)

pub position_one : OneAnswer {Seen = Written × List ℕ} position.Post (λ κs r s. (r, s.1.0.now))
position_one κs a r r' s s' = one_write

pub reset_one : OneAnswer {Seen = Restored × List ℕ} reset.Post (λ κs r s. (r, s.0.now))
reset_one κs a r r' s s' = one_restore

pub save_one : OneAnswer {Seen = Written × List ℕ} save.Post (λ κs r s. (r, s.1.0.now))
save_one κs a r r' s s' = one_write

pub restore_one : OneAnswer {Seen = Restored × List ℕ} restore.Post (λ κs r s. (r, s.0.now))
restore_one κs a r r' s s' = one_restore
