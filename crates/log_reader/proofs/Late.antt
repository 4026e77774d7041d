-- Why a frame that the places hold was begun before the piece: one that begins in the piece is taken from there at once, or does not end in it.
-- Assumes nothing.
use mathlib.Core.Path.{◌≡◌, refl, sym, ap, subst}
use mathlib.Core.Bool.{◌&&◌}
use mathlib.Core.Logic.{◌⊎◌, inl, inr, ⊎_elim}
use mathlib.Core.List.{List, [], ◌∷◌, ◌++◌}
use Prim.Native.Nat.{ℕ, ◌+◌, ◌-◌, ◌≤◌, ◌<◌}
use native.Mathlib.Omega.{arith}
use borrow.Author.Tests.{ltb-true, ltb-false}
use lib.Dec.{ltb, leb, eqb}
use lib.ListN.{length}
use Rattle.base.proofs.Tests.{by_test}
use Rattle.groups.specs.Reading.{step}
use Rattle.groups.specs.declared.Step.{Step}
use Rattle.groups.specs.declared.Step.TheVariants.{GoesOn, Done, Malformed}
use Rattle.reading.specs.Reading.{limit}
use Rattle.refusals.specs.declared.Refusal.TheVariants.{InvalidFrame}
use Rattle.kit_log.specs.Entry.{Entry, greatest}
use Rattle.kit_log.specs.Reading.{Want, version, seconds, size, State, number, frame, refused, ended, Fed, on, entry, meaning, feed_number, fine, feed_frame, feed}
use Rattle.kit_log.proofs.Agrees.{feed_part, feed_whole, feed_bad, snoc}

-- at place i of a piece of m bytes: no byte of the frame has come; or more than the piece has given; or it does not end in the piece
abbrev pub Late : ℕ → ℕ → State → Type 0
Late m i (number want v w) = Unit {0}
Late m i (frame t n h) = (length h ≡ 0) ⊎ ((i < length h) ⊎ (m < i + (n - length h)))
Late m i (refused r) = Unit {0}
Late m i ended = Unit {0}

-- a frame that begins here does not end in the piece
abbrev pub Fresh : ℕ → ℕ → State → Type 0
Fresh m i (number want v w) = Unit {0}
Fresh m i (frame t n h) = length h ≡ 0 → m < i + n
Fresh m i (refused r) = Unit {0}
Fresh m i ended = Unit {0}

pub late_start : (m : ℕ) (st : State) → Late m 0 st
late_start m (number want v w) = tt
late_start m (frame t n []) = inl refl
late_start m (frame t n (b ∷ h)) = inr (inl (omega arith))
late_start m (refused r) = tt
late_start m ended = tt

-- ---- one byte more

late_meaning : (m i : ℕ) (want : Want) (n : ℕ) → Late m i (meaning want n)
unfolding meaning
late_meaning m i version n = by_test (eqb n 1) (λ e. rw e tt) (λ e. rw e tt)
late_meaning m i seconds n = tt
late_meaning m i (size t) n = by_test (leb 4 n && leb n limit) (λ e. rw e (inl refl)) (λ e. rw e tt)

late_number : (m i : ℕ) (want : Want) (v w b : ℕ) → Late m i (feed_number want v w b)
unfolding feed_number
late_number m i want v w b = by (step greatest v w b) refl
  where
    by : (x : Step) → step greatest v w b ≡ x → Late m i (feed_number want v w b)
    by (GoesOn v' w') e = rw (e, feed_number) tt
    by (Done n) e = rw (e, feed_number) (late_meaning m i want n)
    by Malformed e = rw (e, feed_number) tt

-- what a byte of a frame makes: the bytes do not begin a frame; they go on; or they are all
data Fate (t n : ℕ) (h : List ℕ) : Fed → Type 0 where
  bad : Fate t n h (on (refused InvalidFrame))
  part : length h < n → Fate t n h (on (frame t n h))
  all : n ≤ length h → Fate t n h (entry (record { seconds = t; frame = h }))

fate : (t n : ℕ) (h : List ℕ) → Fate t n h (feed_frame t n h)
fate t n h =
    by_test (fine n h)
    (λ f.
    by_test (ltb (length h) n) (λ l. subst (Fate t n h) (sym (feed_part t n h f (ltb-true _ _ l))) (part (ltb-true _ _ l)))
    (λ l. subst (Fate t n h) (sym (feed_whole t n h f (ltb-false _ _ l))) (all (ltb-false _ _ l))))
    (λ f. subst (Fate t n h) (sym (feed_bad t n h f)) bad)

on_one : {a c : State} → on a ≡ on c → a ≡ c
on_one q = cc

module _ (m i b : ℕ) where
  late_part : (t n : ℕ) (h : List ℕ) {f : Fed} {st : State} → Fate t n (h ++ b ∷ []) f → f ≡ on st → Fresh m i (frame t n h) → Late m i (frame t n h) → Late m (i + 1) st
  late_part t n h bad e fresh late = subst (Late m (i + 1)) (on_one e) tt
  late_part t n h (part l) e fresh late =
      subst (Late m (i + 1)) (on_one e)
      (let k = snoc h b in
      ⊎_elim (λ (z : length h ≡ 0). let f = fresh z in inr (inr (omega arith)))
      (λ rest. ⊎_elim (λ (z : i < length h). inr (inl (omega arith))) (λ (z : m < i + (n - length h)). inr (inr (omega arith))) rest)
      late)
  late_part t n h (all l) e fresh late = absurd (let z : ◌≡◌ {A = ℕ} 0 1 = cc in omega arith)

  pub late_on : (st : State) {st' : State} → feed st b ≡ on st' → Fresh m i st → Late m i st → Late m (i + 1) st'
  unfolding feed
  late_on (number want v w) e fresh late = subst (Late m (i + 1)) (on_one e) (late_number m (i + 1) want v w b)
  late_on (frame t n h) e fresh late = late_part t n h (fate t n (h ++ b ∷ [])) e fresh late
  late_on (refused r) e fresh late = subst (Late m (i + 1)) (on_one e) tt
  late_on ended e fresh late = subst (Late m (i + 1)) (on_one e) tt

  -- an entry that ends here has more bytes than were taken
  late_all : (t n : ℕ) (h : List ℕ) {f : Fed} {x : Entry} → Fate t n (h ++ b ∷ []) f → f ≡ entry x → Fresh m i (frame t n h) → Late m i (frame t n h) → i < m
      → i + 1 < length x.frame
  late_all t n h bad e fresh late inside = absurd (let z : ◌≡◌ {A = ℕ} 0 1 = cc in omega arith)
  late_all t n h (part l) e fresh late inside = absurd (let z : ◌≡◌ {A = ℕ} 0 1 = cc in omega arith)
  late_all t n h {x = x} (all l) e fresh late inside =
      let k = snoc h b in
      let same : length (h ++ b ∷ []) ≡ length x.frame = ap length (frame_of_lem e) in
      ⊎_elim (λ (z : length h ≡ 0). let f = fresh z in absurd (omega arith))
      (λ rest. ⊎_elim (λ (z : i < length h). omega arith) (λ (z : m < i + (n - length h)). absurd (omega arith)) rest)
      late
    where
      frame_of_lem : {y : Entry} → entry y ≡ entry x → y.frame ≡ x.frame
      frame_of_lem q = cc

  pub late_entry : (st : State) {x : Entry} → feed st b ≡ entry x → Fresh m i st → Late m i st → i < m → i + 1 < length x.frame
  unfolding feed
  late_entry (number want v w) e fresh late inside = absurd (let z : ◌≡◌ {A = ℕ} 0 1 = cc in omega arith)
  late_entry (frame t n h) e fresh late inside = late_all t n h (fate t n (h ++ b ∷ [])) e fresh late inside
  late_entry (refused r) e fresh late inside = absurd (let z : ◌≡◌ {A = ℕ} 0 1 = cc in omega arith)
  late_entry ended e fresh late inside = absurd (let z : ◌≡◌ {A = ℕ} 0 1 = cc in omega arith)
