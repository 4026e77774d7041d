-- What is answered at each return of a call with its position; and a call that moves is one of crate `stream`.
-- Assumes nothing.
use mathlib.Core.Path.{◌≡◌, refl, sym, ◌∙◌}
use mathlib.Core.Bool.{true, false, true≢false}
use mathlib.Core.List.{List}
use Prim.Native.Nat.{ℕ, ◌+◌, ◌-◌, ◌≤◌}
use native.Mathlib.Omega.{arith}
use lib.ListN.{length}
use Rattle.base.proofs.Tests.{by_test}
use Rattle.refusals.specs.declared.Refusal.TheVariants.{BadState, PositionRange}
use Rattle.reading.specs.Call.{call}
use Rattle.reading.specs.History.{answered}
use Rattle.reading.specs.Positions.{behind, is_within}
use Rattle.stream.specs.Places.{held_in}
use Rattle.stream.specs.Step.{is_span, Steps}
use Rattle.stream.specs.declared.step.Moved.{Moved}
use Rattle.stream.proofs.Bounds.{taken_bound, still_span}
use Rattle.numbered.proofs.Within.{within}
use Rattle.numbered.proofs.Counts.{Sums, sums, position_is}
use Rattle.numbered.specs.declared.Advanced.{Advanced}
use Rattle.numbered.specs.Step.{stays, StepsAt}

module _ {m : ℕ} {before : List ℕ} {start end position : ℕ} {input : List ℕ} where
  pub refused_at : {r : Advanced} → is_span m start end ≡ false → r ≡ stays start end position BadState → StepsAt m before start end position input before r
  refused_at bad e =
      record {
        same = refl;
        refuses = λ _. (e, refl);
        beyond = λ good _. absurd (true≢false (sym good ∙ bad));
        moves = λ good _. absurd (true≢false (sym good ∙ bad));
        counts = λ good _. absurd (true≢false (sym good ∙ bad));
      }

  pub beyond_at : {r : Advanced} → is_span m start end ≡ true → is_within position (end - start) (length input) ≡ false
      → r ≡ stays start end position PositionRange → StepsAt m before start end position input before r
  beyond_at good far e =
      record {
        same = refl;
        refuses = λ bad. absurd (true≢false (sym good ∙ bad));
        beyond = λ _ _. (e, refl);
        moves = λ _ fits. absurd (true≢false (sym fits ∙ far));
        counts = λ _ fits. absurd (true≢false (sym fits ∙ far));
      }

  pub moved_at : {after : List ℕ} {r : Advanced} → is_span m start end ≡ true → is_within position (end - start) (length input) ≡ true
      → Steps m before start end input after r.moved → r.position ≡ behind position (answered (call m (held_in before start end) input).answer)
      → StepsAt m before start end position input after r
  moved_at good fits steps e =
      record {
        same = steps.same;
        refuses = λ bad. absurd (true≢false (sym good ∙ bad));
        beyond = λ _ far. absurd (true≢false (sym fits ∙ far));
        moves = λ _ _. steps.moves good;
        counts = λ _ _. e;
      }

  -- and back
  pub as_steps : {after : List ℕ} {r : Advanced} → is_span m start end ≡ true → is_within position (end - start) (length input) ≡ true
      → StepsAt m before start end position input after r → Steps m before start end input after r.moved
  as_steps good fits s =
      record { same = s.same; refuses = λ bad. absurd (true≢false (sym good ∙ bad)); moves = λ _. s.moves good fits }

  -- a call takes no more than there is, and no more than the limit, whatever it answers
  pub taken_at_most : {after : List ℕ} {r : Advanced} → StepsAt m before start end position input after r
      → (r.moved.taken ≤ length input) × (r.moved.taken ≤ m)
  taken_at_most s =
      by_test (is_span m start end)
      (λ good.
      by_test (is_within position (end - start) (length input))
      (λ fits. taken_bound (as_steps good fits s))
      (λ far. rw (s.beyond good far).0 (omega arith)))
      (λ bad. rw (s.refuses bad).0 (omega arith))

  -- a valid state stays one
  pub still_at : {after : List ℕ} {r : Advanced} → StepsAt m before start end position input after r → is_span m start end ≡ true
      → is_span m r.moved.start r.moved.end ≡ true
  still_at s good =
      by_test (is_within position (end - start) (length input))
      (λ fits. still_span (as_steps good fits s) good)
      (λ far. rw (s.beyond good far).0 good)

-- of a call that moves: that the code's sums have room, and that its position is the one behind the answer
module _ {before : List ℕ} {start end position : ℕ} {input after : List ℕ} {r : Moved} (good : is_span (length before) start end ≡ true)
    (fits : is_within position (end - start) (length input) ≡ true) (steps : Steps (length before) before start end input after r) where
  pub summed : Sums position start end r
  summed = sums {before = before} refl steps.same good (steps.moves good) position (within _ _ _ fits)

  pub stepped_at : StepsAt (length before) before start end position input after
      (record { moved = r; position = position + ((end - start) + r.taken - (r.end - r.start)) })
  stepped_at = moved_at good fits steps (position_is {before = before} refl steps.same good (steps.moves good) position)
