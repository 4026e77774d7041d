-- Demand 3 for positions: they are functions of the answers, so it follows from what every history keeps. An answer's position is its place in the
-- stream, positions rise, and no two answers share one.
-- Assumes nothing.
use mathlib.Core.Path.{◌≡◌, refl, sym, ap, ap₂, ◌∙◌, subst}
use mathlib.Core.Bool.{true}
use mathlib.Core.List.{List, [], ◌∷◌, ◌++◌, append_assoc, append-nil, nil≢cons, head-eq_of_cons-eq, tail-eq_of_cons-eq}
use Prim.Native.Nat.{ℕ, zero, suc, ◌+◌, ◌-◌, ◌≤◌, ◌<◌}
use native.Mathlib.Omega.{arith}
use borrow.Author.Tests.{le-leb}
use lib.ListN.{length, take, drop, length-append, length-drop}
use lib.Seq.{drop-drop, drop-append_seam}
use Rattle.reading.specs.Answer.{Answer, drops, all_dropped}
use Rattle.reading.specs.Reading.{First, stop, says, first, Reading, reading}
use Rattle.reading.specs.Call.{dropped_by, call}
use Rattle.reading.specs.History.{answered, History}
use Rattle.reading.specs.Positions.{greatest, behind, numbered, is_within, Positioned}
use Rattle.reading.proofs.First.{stands}
use Rattle.reading.proofs.Reading.{heads, at_stop, at_says, by_reading}
use Rattle.reading.proofs.History.{so_now, faithful}
use Rattle.reading.proofs.Retries.{one_begins_other}

-- ---- Answers, and then more

pub behind_append : (p : ℕ) (xs ys : List Answer) → behind p (xs ++ ys) ≡ behind (behind p xs) ys
behind_append p [] ys = refl
behind_append p (a ∷ xs) ys = behind_append (p + drops a) xs ys

pub numbered_append : (p : ℕ) (xs ys : List Answer) → numbered p (xs ++ ys) ≡ numbered p xs ++ numbered (behind p xs) ys
numbered_append p [] ys = refl
numbered_append p (a ∷ xs) ys = ap (◌∷◌ (p, a)) (numbered_append (p + drops a) xs ys)

pub not_before : (p : ℕ) (xs : List Answer) → p ≤ behind p xs
not_before p [] = omega arith
not_before p (a ∷ xs) = omega (arith, not_before (p + drops a) xs)

numbered_take : (p n : ℕ) (xs : List Answer) → numbered p (take n xs) ≡ take n (numbered p xs)
numbered_take p zero xs = refl
numbered_take p (suc n) [] = refl
numbered_take p (suc n) (a ∷ xs) = ap (◌∷◌ (p, a)) (numbered_take (p + drops a) n xs)

-- no answer began before the first, and each at or behind the end of those before it
first_at : (p : ℕ) (given : List Answer) (xs : List (ℕ × Answer)) (x : ℕ × Answer) (ys : List (ℕ × Answer)) → numbered p given ≡ xs ++ x ∷ ys → p ≤ x.0
first_at p [] [] x ys e = absurd (nil≢cons e)
first_at p [] (y ∷ xs) x ys e = absurd (nil≢cons e)
first_at p (b ∷ more) [] x ys e = let same = ap (λ (z : ℕ × Answer). z.0) (head-eq_of_cons-eq e) in omega arith
first_at p (b ∷ more) (y ∷ xs) x ys e = let later = first_at (p + drops b) more xs x ys (tail-eq_of_cons-eq e) in omega arith

pub rises : (p : ℕ) (given : List Answer) (xs : List (ℕ × Answer)) (x : ℕ × Answer) (ys : List (ℕ × Answer)) (y : ℕ × Answer) (zs : List (ℕ × Answer))
    → numbered p given ≡ xs ++ x ∷ (ys ++ y ∷ zs) → x.0 + drops x.1 ≤ y.0
rises p [] [] x ys y zs e = absurd (nil≢cons e)
rises p [] (w ∷ xs) x ys y zs e = absurd (nil≢cons e)
rises p (c ∷ more) [] x ys y zs e =
    subst (λ (z : ℕ × Answer). z.0 + drops z.1 ≤ y.0) (head-eq_of_cons-eq e) (first_at (p + drops c) more ys y zs (tail-eq_of_cons-eq e))
rises p (c ∷ more) (w ∷ xs) x ys y zs e = rises (p + drops c) more xs x ys y zs (tail-eq_of_cons-eq e)

-- behind a call: what its answer, if any, dropped
pub behind_call : (p : ℕ) (f : First) → behind p (answered f) ≡ p + dropped_by f
unfolding answered dropped_by
behind_call p stop = omega arith
behind_call p (says a) = refl

-- ---- The reading

-- its tail begins where its answers end
pub tail_at : (m : ℕ) (s : List ℕ) (p : ℕ) → behind p (reading m s).answers + length (reading m s).tail ≡ p + length s
tail_at m =
    by_reading m (λ (s : List ℕ). (p : ℕ) → behind p (reading m s).answers + length (reading m s).tail ≡ p + length s)
    (λ s e p. rw (at_stop m s e))
    (λ s a e ih p.
    rw (at_says m s a e)
    (let h = stands m s a e in omega (arith, ih (p + drops a), length-drop (drops a) s, h.within, h.inside)))

-- at its position in the string, an answer stands first
pub record At (m p : ℕ) (s : List ℕ) (q : ℕ) (a : Answer) : Type 0 where
  pub from : p ≤ q
  pub there : first m (drop (q - p) s) ≡ says a

begins_at : (m p : ℕ) (s : List ℕ) (a : Answer) → first m s ≡ says a → At m p s p a
begins_at m p s a e =
    let none : p - p ≡ 0 = omega arith in
    record { from = omega arith; there = ap (λ (k : ℕ). first m (drop k s)) none ∙ e }

further_at : {m p : ℕ} {s : List ℕ} {q : ℕ} {a : Answer} (k : ℕ) → At m (p + k) (drop k s) q a → At m p s q a
further_at {m} {p} {s} {q} k h =
    let place : q - p ≡ k + (q - (p + k)) = omega (arith, h.from) in
    record {
      from = omega (arith, h.from);
      there = ap (λ (i : ℕ). first m (drop i s)) place ∙ ap (first m) (sym (drop-drop (q - (p + k)) k s)) ∙ h.there;
    }

by_answers : (m p : ℕ) (s : List ℕ) (given : List Answer) → (reading m s).answers ≡ given
    → (xs : List (ℕ × Answer)) (q : ℕ) (a : Answer) (ys : List (ℕ × Answer)) → numbered p given ≡ xs ++ (q, a) ∷ ys → At m p s q a
by_answers m p s [] r [] q a ys e = absurd (nil≢cons e)
by_answers m p s [] r (x ∷ xs) q a ys e = absurd (nil≢cons e)
by_answers m p s (b ∷ more) r [] q a ys e =
    subst (λ (x : ℕ × Answer). At m p s x.0 x.1) (head-eq_of_cons-eq e) (begins_at m p s b (heads m s b more r).0)
by_answers m p s (b ∷ more) r (x ∷ xs) q a ys e =
    further_at (drops b) (by_answers m (p + drops b) (drop (drops b) s) more (heads m s b more r).1 xs q a ys (tail-eq_of_cons-eq e))

pub stands_at : (m p : ℕ) (s : List ℕ) (xs : List (ℕ × Answer)) (q : ℕ) (a : Answer) (ys : List (ℕ × Answer))
    → numbered p (reading m s).answers ≡ xs ++ (q, a) ∷ ys → At m p s q a
stands_at m p s xs q a ys e = by_answers m p s (reading m s).answers refl xs q a ys e

-- ---- Every history

module _ {m : ℕ} {stream held unread : List ℕ} {given : List Answer} (h : History m stream held unread given) (p : ℕ) where
  numbers_so_far : (more : List ℕ)
      → numbered p (reading m (stream ++ more)).answers ≡ numbered p given ++ numbered (behind p given) (reading m (held ++ unread ++ more)).answers
  numbers_so_far more =
      ap (λ (r : Reading). numbered p r.answers) ((faithful h).so_far more) ∙ numbered_append p given (reading m (held ++ unread ++ more)).answers

  counts : behind p given + length (held ++ unread) ≡ p + length stream
  counts =
      let left = reading m (held ++ unread) in
      omega (
        arith,
        tail_at m stream p,
        tail_at m (held ++ unread) (behind p given),
        ap (λ (r : Reading). behind p r.answers) (so_now h) ∙ behind_append p given left.answers,
        ap (λ (r : Reading). length r.tail) (so_now h),
      )

  stands_own : drop (behind p given - p) stream ≡ held ++ unread
  stands_own =
      let kept = (faithful h).kept in
      let size : behind p given - p ≡ length (all_dropped given) =
      omega (arith, counts, not_before p given, ap length kept, length-append (all_dropped given) (held ++ unread)) in
      ap₂ drop size (sym kept) ∙ drop-append_seam (all_dropped given) (held ++ unread)

  -- demand 3 for positions
  pub positioned : Positioned m p stream held unread given
  positioned =
      record {
        so_far = numbers_so_far;
        after = not_before p given;
        own = stands_own;
        counted = counts;
        all = λ asks.
            let e = ap (λ (r : Reading). r.answers) ((faithful h).all asks) in
            (ap (numbered p) e, ap (behind p) e);
      }

  -- an answer given began at its place of the stream, and of every longer one
  pub given_at : (more : List ℕ) (xs : List (ℕ × Answer)) (q : ℕ) (a : Answer) (ys : List (ℕ × Answer)) → numbered p given ≡ xs ++ (q, a) ∷ ys
      → At m p (stream ++ more) q a
  given_at more xs q a ys e =
      let left = numbered (behind p given) (reading m (held ++ unread ++ more)).answers in
      stands_at m p (stream ++ more) xs q a (ys ++ left)
      (numbers_so_far more ∙ ap (λ (l : List (ℕ × Answer)). l ++ left) e ∙ append_assoc xs ((q, a) ∷ ys) left)

  -- a stream whose bytes can all be numbered is never refused with 12: no call on what is unread, or on the first part of it, is
  pub never_beyond : (input later : List ℕ) → unread ≡ input ++ later → p + length stream ≤ greatest
      → is_within (behind p given) (length held) (length input) ≡ true
  unfolding is_within
  never_beyond input later e fits =
      le-leb (behind p given + length held + length input) greatest
      (omega (arith, counts, length-append held unread, ap length e, length-append input later))

  -- positions rise: a later answer began behind all that an earlier one dropped, and that is a byte at least. So no two answers share a position
  pub never_same : (xs : List (ℕ × Answer)) (q : ℕ) (a : Answer) (ys : List (ℕ × Answer)) (r : ℕ) (b : Answer) (zs : List (ℕ × Answer))
      → numbered p given ≡ xs ++ (q, a) ∷ (ys ++ (r, b) ∷ zs) → q < r
  never_same xs q a ys r b zs e =
      let place = given_at [] xs q a (ys ++ (r, b) ∷ zs) e in
      omega (arith, rises p given xs (q, a) ys (r, b) zs e, (stands m (drop (q - p) (stream ++ [])) a place.there).some)

-- ---- An upload that is read again from its first byte

-- whoever lost the parser reads the whole upload again, as far as it reaches now. What came then at a position comes again there, and nothing else does
module _ {m : ℕ} {stream held₁ unread₁ held₂ unread₂ : List ℕ} {given₁ given₂ : List Answer} (more : List ℕ) (p : ℕ)
    (then : History m stream held₁ unread₁ given₁) (now : History m (stream ++ more) held₂ unread₂ given₂) where
  pub same_position : (xs xs' : List (ℕ × Answer)) (q : ℕ) (a b : Answer) (ys ys' : List (ℕ × Answer))
      → numbered p given₁ ≡ xs ++ (q, a) ∷ ys → numbered p given₂ ≡ xs' ++ (q, b) ∷ ys' → a ≡ b
  same_position xs xs' q a b ys ys' e e' =
      let there = (given_at then p more xs q a ys e).there in
      let again = ap (λ (s : List ℕ). first m (drop (q - p) s)) (sym (append-nil (stream ++ more))) ∙ (given_at now p [] xs' q b ys' e').there in
      let same : says a ≡ says b = sym there ∙ again in
      cc

  -- read until it asks for more, all of them come again, first and in that order, at the same positions; and then those of what has come since
  pub all_again : (call m held₂ unread₂).answer ≡ stop
      → numbered p given₂ ≡ numbered p given₁ ++ numbered (behind p given₁) (reading m (held₁ ++ unread₁ ++ more)).answers
  all_again asks = sym ((positioned now p).all asks).0 ∙ (positioned then p).so_far more

  -- on the way there, as many as have come are the first of them
  pub again_from_start : length given₁ ≤ length given₂ → take (length given₁) (numbered p given₂) ≡ numbered p given₁
  again_from_start fewer =
      sym (numbered_take p (length given₁) given₂) ∙ ap (numbered p) (one_begins_other more then now fewer)
