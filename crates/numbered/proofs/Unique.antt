-- The promises leave one answer: of a call with its position, one of all that is seen, and on refusal all of the state.
-- Assumes nothing.
use mathlib.Core.Path.{◌≡◌, refl, ap₂}
use mathlib.Core.Bool.{Bool, true}
use mathlib.Core.List.{List, [], ◌∷◌}
use Prim.Native.Nat.{ℕ, ◌-◌, ◌≤◌}
use native.Mathlib.Omega.{arith}
use borrow.Author.Tests.{ne_eqb}
use lib.ListN.{length}
use Rattle.base.proofs.Tests.{by_test}
use Rattle.base.proofs.Unique.{OneAnswer, same}
use Rattle.reading.specs.Positions.{is_within}
use Rattle.refusals.specs.Row.{number_of}
use Rattle.stream.specs.Step.{meaning_of, is_span}
use Rattle.stream.specs.declared.step.Reply.{Reply}
use Rattle.stream.specs.declared.step.Reply.TheVariants.{More, Frame, Refused}
use Rattle.stream.proofs.Unique.{number_said, says_framing, one_seen}
use Rattle.numbered.specs.declared.Advanced.{Advanced}
use Rattle.numbered.specs.Step.{StepsAt}
use Rattle.numbered.specs.Seen.{SeenAt, if_beyond, seen_at}
use Rattle.numbered.proofs.Steps.{as_steps}
use Rattle.numbered.proofs.is_within.Reads as is_Within
use Rattle.numbered.proofs.step_at.Reads as step-at

pub is_within_one : OneAnswer {Seen = Bool} is_Within.Post (λ κs r s. r)
is_within_one κs a r r' s s' = same

-- a call that moves is not refused with 12
pub not_beyond : (piece places state : List ℕ) (a : Reply) → number_said (meaning_of a piece places) ≤ 3 → if_beyond a state ≡ []
unfolding number_said meaning_of if_beyond
not_beyond piece places state More h = refl
not_beyond piece places state (Frame p) h = refl
not_beyond piece places state (Refused r) h = rw (ne_eqb (number_of r) 12 (λ e. omega arith))

module _ (m : ℕ) (before : List ℕ) (start end position : ℕ) (input : List ℕ) (full : length before ≡ m) {after after' : List ℕ} {r r' : Advanced}
    (a : StepsAt m before start end position input after r) (b : StepsAt m before start end position input after' r') where
  moved_once : is_span m start end ≡ true → is_within position (end - start) (length input) ≡ true → seen_at r after ≡ seen_at r' after'
  unfolding seen_at
  moved_once good fits =
      let one = one_seen m before start end input full (as_steps good fits a) (as_steps good fits b) in
      let p = same (a.counts good fits) (b.counts good fits) in
      let q = not_beyond input after (r.moved.start ∷ r.moved.end ∷ after) r.moved.reply (says_framing (a.moves good fits)) in
      let q' = not_beyond input after' (r'.moved.start ∷ r'.moved.end ∷ after') r'.moved.reply (says_framing (b.moves good fits)) in
      rw (one, p, q, q')

  pub one_seen_at : seen_at r after ≡ seen_at r' after'
  one_seen_at =
      by_test (is_span m start end)
      (λ good.
      by_test (is_within position (end - start) (length input))
      (λ fits. moved_once good fits)
      (λ far. ap₂ seen_at (same (a.beyond good far).0 (b.beyond good far).0) (same (a.beyond good far).1 (b.beyond good far).1)))
      (λ bad. ap₂ seen_at (same (a.refuses bad).0 (b.refuses bad).0) (same (a.refuses bad).1 (b.refuses bad).1))

pub step_at_one : OneAnswer {Seen = SeenAt} step-at.Post (λ κs r s. seen_at r s.0.now)
step_at_one κs a r r' s s' = one_seen_at _ a.0.now a.1.0 a.1.1.0 a.1.1.1.0 a.1.1.1.1.0.now refl
