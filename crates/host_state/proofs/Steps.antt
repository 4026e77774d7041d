-- A call over the places is a call over the state; and with the position moved by what its answer dropped, it is the call with a position.
-- Assumes nothing.
use mathlib.Core.Path.{◌≡◌, refl, sym, ap, ap₂, ◌∙◌, subst}
use mathlib.Core.Bool.{true, false, true≢false, ◌&&◌, not, and-eq-true_iff}
use mathlib.Core.List.{List}
use Prim.Native.Nat.{ℕ, ◌-◌, ◌≤◌, ◌<◌}
use native.Mathlib.Omega.{arith}
use borrow.Author.Tests.{not-true, not-false}
use lib.ListN.{length, set}
use Rattle.base.specs.Parts.{part, placed}
use Rattle.base.proofs.Parts.{length_part}
use Rattle.base.proofs.Tests.{by_test}
use Rattle.numbers.specs.BigEndian.{be_of, bytes_of}
use Rattle.numbers.proofs.BigEndian.{length_bytes_of}
use Rattle.reading.specs.Reading.{limit}
use Rattle.reading.specs.Call.{call}
use Rattle.reading.specs.History.{answered}
use Rattle.reading.specs.Positions.{greatest, behind}
use Rattle.refusals.specs.declared.Refusal.TheVariants.{BadState, PositionRange}
use Rattle.stream.specs.declared.step.Reply.TheVariants.{Refused}
use Rattle.stream.specs.Step.{is_span, Steps}
use Rattle.stream.specs.declared.step.Moved.{Moved}
use Rattle.stream.specs.declared.step.Replied.{Replied}
use Rattle.numbered.proofs.Within.{is_within_lem}
use Rattle.numbered.proofs.Steps.{refused_at, beyond_at, moved_at}
use Rattle.host_state.specs.State.{size, position_at, state_of, start_in, end_in, places_in, position_in, held_by, has_size, is_state}
use Rattle.host_state.specs.Step.{PlacesStep, can_number, is_beyond, StateSteps}
use Rattle.host_state.proofs.States.{has_size_lem, state_size, state_span, state_bounds, places_count, whole, written, stores_written, places_of, position_bytes_of, position_of_lem, size_of, moved_of}

-- ---- over the places

-- where the held bytes stand fits two bytes
pub bounded : {m : ℕ} {before : List ℕ} {start end : ℕ} {input after : List ℕ} {r : Moved} → Steps m before start end input after r
    → m < 256 → start < 256 → end < 256 → (r.start < 256) × (r.end < 256)
bounded {m} {before} {start} {end} steps small low high =
    by_test (is_span m start end)
    (λ good. let moved = steps.moves good in omega arith)
    (λ bad. let same = (steps.refuses bad).0 in (rw same low, rw same high))

same_steps : {m m' : ℕ} {before : List ℕ} {start start' end end' : ℕ} (input : List ℕ) {after after' : List ℕ} {r r' : Moved}
    → m ≡ m' → start ≡ start' → end ≡ end' → after ≡ after' → r ≡ r'
    → Steps m before start end input after r → Steps m' before start' end' input after' r'
same_steps {m} {m'} {before} {start} {start'} {end} {end'} input {after} {after'} {r} {r'} p u v w x steps =
    subst (λ (y : Moved). Steps m' before start' end' input after' y) x
    (subst (λ (y : List ℕ). Steps m' before start' end' input y r) w
    (subst (λ (y : ℕ). Steps m' before start' y input after r) v
    (subst (λ (y : ℕ). Steps m' before y end input after r) u
    (subst (λ (y : ℕ). Steps y before start end input after r) p steps))))

module _ (s : List ℕ) (fits : length s ≡ size) (ys : List ℕ) (full : length ys ≡ limit) where
  pub places_step : {start end a b : ℕ} (input : List ℕ) (r : Moved) → start ≡ start_in s → end ≡ end_in s → a ≡ r.start → b ≡ r.end
      → Steps (length (places_in s)) (places_in s) start end input ys r
      → PlacesStep s input (set (set (written s fits ys full) 0 a) 1 b) (record { taken = r.taken; reply = r.reply })
  places_step {start} {end} {a} {b} input r u v p q steps =
      let bytes : List ℕ = part s position_at 8 in
      let eight : length bytes ≡ 8 = length_part s position_at 8 (omega arith) in
      subst (λ (after : List ℕ). PlacesStep s input after (record { taken = r.taken; reply = r.reply })) (sym (stores_written s fits ys full a b))
      (record {
        refuses = λ bad. absurd (true≢false (sym (has_size_lem s fits) ∙ bad));
        same = size_of a b ys full bytes eight ∙ sym fits;
        steps = λ _. same_steps input (places_count s fits) u v (sym (places_of a b ys full bytes))
            (ap₂ (λ (x y : ℕ). record { start = x; end = y; taken = r.taken; reply = r.reply }) (sym p) (sym q)) steps;
        stands = λ _. position_bytes_of a b ys full bytes eight;
      })

-- ---- the test for 12

module _ (s input : List ℕ) where
  -- up to there no input is too long
  pub near : position_in s ≤ 9223372036854775743 → length input < 9223372036854775808 → false ≡ is_beyond s input
  unfolding is_beyond can_number
  near low short =
      by_test (is_state s)
      (λ good.
      let bounds = state_bounds s good in
      simp (good, is_within_lem (position_in s) (end_in s - start_in s) (length input) (omega (arith, bounds.0, bounds.1))))
      (λ bad. simp bad)

  -- what it says of a valid state
  pub can_number_lem : is_state s ≡ true → is_beyond s input ≡ false → can_number s input ≡ true
  unfolding is_beyond
  can_number_lem good e = not-false (can_number s input) (simp good at e)

  pub cannot_number : is_beyond s input ≡ true → (is_state s ≡ true) × (can_number s input ≡ false)
  unfolding is_beyond
  cannot_number e =
      let both = (and-eq-true_iff (is_state s) (not (can_number s input))).0 e in
      (both.0, not-true (can_number s input) both.1)

-- ---- with the position

-- a state whose start, end and places are those of another, and which stands at q
pub record Follows (mid after : List ℕ) (q : ℕ) : Type 0 where
  pub start : start_in after ≡ start_in mid
  pub end : end_in after ≡ end_in mid
  pub places : places_in after ≡ places_in mid
  pub position : position_in after ≡ q
  pub same : length after ≡ length mid

-- nothing was dropped: the position stays as it was
pub stays_there : {before input mid : List ℕ} {r : Replied} {q : ℕ} → PlacesStep before input mid r → has_size before ≡ true → q ≡ position_in before
    → Follows mid mid q
stays_there p fits e = record { start = refl; end = refl; places = refl; position = ap be_of (p.stands fits) ∙ sym e; same = refl }

-- it was written over
pub goes_there : (mid : List ℕ) (q : ℕ) → length mid ≡ size → q ≤ greatest → Follows mid (placed mid position_at (bytes_of 8 q)) q
goes_there mid q long small =
    let ys : List ℕ = places_in mid in
    let full = places_count mid long in
    let a : ℕ = start_in mid in
    let b : ℕ = end_in mid in
    let is : placed mid position_at (bytes_of 8 q) ≡ state_of a b ys q =
    ap (λ (l : List ℕ). placed l position_at (bytes_of 8 q)) (whole mid long)
    ∙ moved_of a b ys full (part mid position_at 8) (length_part mid position_at 8 (omega arith)) q in
    subst (λ (after : List ℕ). Follows mid after q) (sym is)
    (record {
      start = refl;
      end = refl;
      places = places_of a b ys full (bytes_of 8 q);
      position = position_of_lem a b ys full q small;
      same = size_of a b ys full (bytes_of 8 q) (length_bytes_of 8 q) ∙ sym long;
    })

-- what is refused before anything is done stays
pub wrong_size_steps : (s input : List ℕ) → has_size s ≡ false → StateSteps s input s (record { position = 0; taken = 0; reply = Refused BadState })
wrong_size_steps s input bad =
    record {
      refuses = λ _. (refl, refl);
      same = refl;
      steps = λ fits. absurd (true≢false (sym fits ∙ bad));
      began = λ fits. absurd (true≢false (sym fits ∙ bad));
      kept = λ _. refl;
    }

module _ (s input : List ℕ) (fits : has_size s ≡ true) where
  pub wrong_span_steps : is_span limit (start_in s) (end_in s) ≡ false
      → StateSteps s input s (record { position = position_in s; taken = 0; reply = Refused BadState })
  wrong_span_steps bad =
      record {
        refuses = λ wrong. absurd (true≢false (sym fits ∙ wrong));
        same = refl;
        steps = λ _. refused_at bad refl;
        began = λ _. refl;
        kept = λ _. refl;
      }

  pub beyond_steps : is_span limit (start_in s) (end_in s) ≡ true → can_number s input ≡ false
      → StateSteps s input s (record { position = position_in s; taken = 0; reply = Refused PositionRange })
  unfolding can_number
  beyond_steps span far =
      record {
        refuses = λ wrong. absurd (true≢false (sym fits ∙ wrong));
        same = refl;
        steps = λ _. beyond_at span far refl;
        began = λ _. refl;
        kept = λ _. refl;
      }

-- a call that moves
module _ {before input mid after : List ℕ} {r : Replied} (good : is_state before ≡ true) (can : can_number before input ≡ true) (p : PlacesStep before input mid r)
    (f : Follows mid after (behind (position_in before) (answered (call limit (held_by before) input).answer))) where
  fits : has_size before ≡ true
  fits = has_size_lem before (state_size before good)

  steps_on : Steps limit (places_in before) (start_in before) (end_in before) input (places_in after)
      (record { start = start_in after; end = end_in after; taken = r.taken; reply = r.reply })
  steps_on =
      same_steps input refl refl refl (sym f.places)
      (ap₂ (λ (x y : ℕ). record { start = x; end = y; taken = r.taken; reply = r.reply }) (sym f.start) (sym f.end)) (p.steps fits)

  pub state_steps : StateSteps before input after (record { position = position_in before; taken = r.taken; reply = r.reply })
  unfolding can_number
  state_steps =
      record {
        refuses = λ bad. absurd (true≢false (sym fits ∙ bad));
        same = f.same ∙ p.same;
        steps = λ _. moved_at (state_span before good) can steps_on f.position;
        began = λ _. refl;
        kept = λ none. absurd (true≢false (sym (ap₂ ◌&&◌ good can) ∙ none));
      }
