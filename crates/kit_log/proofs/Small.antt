-- The seconds that a reader keeps are a number of a log, whatever it is fed.
-- Assumes nothing.
use mathlib.Core.Path.{◌≡◌, refl, subst}
use mathlib.Core.Bool.{◌&&◌}
use mathlib.Core.List.{List, [], ◌∷◌, ◌++◌}
use Prim.Native.Nat.{ℕ, ◌≤◌}
use lib.Dec.{eqb, leb, ltb}
use lib.ListN.{length}
use Rattle.base.proofs.Tests.{by_test}
use borrow.Author.Tests.{ltb-true, ltb-false}
use Rattle.groups.specs.Reading.{step}
use Rattle.groups.specs.declared.Step.{Step}
use Rattle.groups.specs.declared.Step.TheVariants.{GoesOn, Done, Malformed}
use Rattle.groups.proofs.Reading.{done_small}
use Rattle.reading.specs.Reading.{limit}
use Rattle.kit_log.specs.Entry.{greatest}
use Rattle.kit_log.specs.Reading.{Want, version, seconds, size, State, number, frame, refused, ended, Fed, on, entry, meaning, feed_number, fine, feed, after}
use Rattle.kit_log.specs.Call.{call}
use Rattle.kit_log.specs.Room.{Behind, Small}
use Rattle.kit_log.proofs.Agrees.{feed_part, feed_whole, feed_bad}
use Rattle.kit_log.proofs.History.{call_on, call_entry}

meaning_small : (want : Want) (n : ℕ) → n ≤ greatest → Behind want → Small (meaning want n)
unfolding meaning
meaning_small version n few behind = by_test (eqb n 1) (λ e. rw e tt) (λ e. rw e tt)
meaning_small seconds n few behind = few
meaning_small (size t) n few behind = by_test (leb 4 n && leb n limit) (λ e. rw e behind) (λ e. rw e tt)

number_small : (want : Want) (v w b : ℕ) → Behind want → Small (feed_number want v w b)
unfolding feed_number
number_small want v w b behind = by (step greatest v w b) refl
  where
    by : (x : Step) → step greatest v w b ≡ x → Small (feed_number want v w b)
    by (GoesOn v' w') e = rw (e, feed_number) behind
    by (Done n) e = rw (e, feed_number) (meaning_small want n (done_small greatest v w b n e) behind)
    by Malformed e = rw (e, feed_number) tt

feed_small : (st : State) (b : ℕ) → Small st → Small (after (feed st b))
unfolding feed after
feed_small (number want v w) b small = number_small want v w b small
feed_small (frame t n h) b small =
    let h' = h ++ b ∷ [] in
    by_test (fine n h')
    (λ f.
    by_test (ltb (length h') n) (λ l. rw (feed_part t n h' f (ltb-true _ _ l)) small) (λ l. rw (feed_whole t n h' f (ltb-false _ _ l)) tt))
    (λ f. rw (feed_bad t n h' f) tt)
feed_small (refused r) b small = tt
feed_small ended b small = tt

pub call_small : (st : State) → Small st → (s : List ℕ) → Small (call st s).state
unfolding call after
call_small st small [] = small
call_small st small (b ∷ s) = by (feed st b) refl (λ st' small'. call_small st' small' s)
  where
    by : (f : Fed) → feed st b ≡ f → ((st' : State) → Small st' → Small (call st' s).state) → Small (call st (b ∷ s)).state
    by (on st') e rest = rw (call_on st st' b s e) (rest st' (subst (λ (f : Fed). Small (after f)) e (feed_small st b small)))
    by (entry x) e rest = rw (call_entry st x b s e) tt
