-- A comparison is never stuck: more of an upload is asked for only where fewer bytes are left of it than a frame may have, and more may come; and room
-- only where there is none for the longest lines.
-- Assumes nothing.
use mathlib.Core.Path.{◌≡◌, refl, sym, ap, ◌∙◌, subst}
use mathlib.Core.Bool.{Bool, true, false, true≢false, not, and-eq-true_iff}
use mathlib.Core.List.{List}
use Prim.Native.Nat.{ℕ, zero, suc, ◌+◌, ◌-◌, ◌≤◌, ◌<◌}
use native.Mathlib.Omega.{arith}
use borrow.Author.Tests.{ltb-true, leb-false, not-true}
use lib.Dec.{ltb}
use lib.ListN.{length, drop, length-append, length-drop}
use lib.Seq.{drop-drop}
use Rattle.base.specs.Parts.{pasted}
use Rattle.base.proofs.Tests.{by_test}
use Rattle.refusals.specs.declared.Refusal.TheVariants.{PositionRange}
use Rattle.reading.specs.Reading.{limit, stops, first}
use Rattle.reading.specs.Positions.{greatest, is_within}
use Rattle.comparing.specs.Call.{Comparing, stays, hungry, turn_of, goes_on, is_whole, wants_left, wants_right, after, longest_turn, turns_within, compare_of, shown, is_counted, compared_of}
use Rattle.comparing.specs.declared.Compared.{Compared}
use Rattle.comparing.specs.declared.Wants.{Wants}
use Rattle.comparing.specs.declared.Wants.TheVariants.{Left, Right, Room, Nothing, Refused}
use Rattle.comparing.proofs.Found.{short_side}
use Rattle.comparing.proofs.Filled.{by_turn, sized}

abbrev pub is_refused : Wants → Bool
is_refused Left = false
is_refused Right = false
is_refused Room = false
is_refused Nothing = false
is_refused (Refused r) = true

pub record Hungry (room : ℕ) (lends rends : Bool) (s t : List ℕ) (c : Comparing) : Type 0 where
  pub left : c.wants ≡ Left → (lends ≡ false) × (length (drop c.left s) < limit)
  pub right : c.wants ≡ Right → (rends ≡ false) × (length (drop c.right t) < limit)
  pub full : c.wants ≡ Room → room < length c.text + longest_turn
  -- and what can be counted is not refused
  pub never : is_refused c.wants ≡ false

asked : (ends : Bool) (s : List ℕ) → hungry ends (first limit s) ≡ true → (ends ≡ false) × (length s < limit)
asked ends s e =
    let few = short_side s ((and-eq-true_iff (stops (first limit s)) (not ends)).0 e).0 in
    (not-true ends ((and-eq-true_iff (stops (first limit s)) (not ends)).0 e).1, omega (arith, few))

-- one turn: what it asks for, where it does not go on
turn_asks : (n d : ℕ) (lends rends : Bool) (s t : List ℕ)
    → (let c = turn_of n d lends rends s t in
    (c.wants ≡ Left → (lends ≡ false) × (length (drop c.left s) < limit)) × (c.wants ≡ Right → (rends ≡ false) × (length (drop c.right t) < limit)))
turn_asks n d lends rends s t =
    by_turn n d lends rends s t
    (λ (c : Comparing).
    (c.wants ≡ Left → (lends ≡ false) × (length (drop c.left s) < limit)) × (c.wants ≡ Right → (rends ≡ false) × (length (drop c.right t) < limit)))
    (λ e. (λ _. asked lends s e, λ q. absurd (true≢false (ap wants_left q))))
    (λ fed e. (λ q. absurd (true≢false (ap wants_right q)), λ _. asked rends t e))
    (λ fed fed' e. (λ q. absurd (true≢false (sym (ap wants_left q))), λ q. absurd (true≢false (sym (ap wants_right q)))))
    (λ fed fed' e. (λ q. absurd (true≢false (sym (ap wants_left q))), λ q. absurd (true≢false (sym (ap wants_right q)))))

-- a turn that goes on, and then a comparison of what it leaves
asks_after : {room : ℕ} {lends rends : Bool} {s t : List ℕ} (c more : Comparing)
    → Hungry (room - length c.text) lends rends (drop c.left s) (drop c.right t) more → Hungry room lends rends s t (after c more)
asks_after {s = s} {t} c more h = record {
  left = λ e. let few = h.left e in (few.0, omega (arith, few.1, ap length (drop-drop more.left c.left s)));
  right = λ e. let few = h.right e in (few.0, omega (arith, few.1, ap length (drop-drop more.right c.right t)));
  full = λ e. omega (arith, h.full e, length-append c.text more.text);
  never = h.never;
}

turns_ask : (most room n d : ℕ) (lends rends : Bool) (s t : List ℕ) → length s + length t < most
    → Hungry room lends rends s t (turns_within most room n d lends rends s t)
unfolding turns_within
turns_ask zero room n d lends rends s t h = absurd (omega arith)
turns_ask (suc most) room n d lends rends s t h =
    let c = turn_of n d lends rends s t in
    let size = sized n d lends rends s t in
    by_test (ltb room longest_turn)
    (λ short.
    rw short
    (record {
      left = λ q. absurd (true≢false (sym (ap wants_left q)));
      right = λ q. absurd (true≢false (sym (ap wants_right q)));
      full = λ q. omega (arith, ltb-true room longest_turn short);
      never = refl;
    }))
    (λ many.
    by_test (goes_on c.wants)
    (λ onward.
    rw (many, onward)
    (asks_after c _
    (turns_ask most (room - length c.text) c.agree c.differ lends rends (drop c.left s) (drop c.right t)
    (omega (arith, size.some onward, size.left_in, size.right_in, length-drop c.left s, length-drop c.right t)))))
    (λ done.
    let asks = turn_asks n d lends rends s t in
    rw (many, done)
    (record {
      left = asks.0;
      right = asks.1;
      full = λ q. absurd (true≢false (sym (ap goes_on q) ∙ done));
      never = by_turn n d lends rends s t (λ (x : Comparing). is_refused x.wants ≡ false) (λ e. refl) (λ fed e. refl) (λ fed fed' e. refl) (λ fed fed' e. refl);
    })))

pub never_stuck : (room n d : ℕ) (lends rends : Bool) (s t : List ℕ) → Hungry room lends rends s t (compare_of room n d lends rends s t)
never_stuck room n d lends rends s t = turns_ask (suc (length s + length t)) room n d lends rends s t (omega arith)

-- a call, by what it shows
pub record Asks (left right : List ℕ) (lends rends : Bool) (n d room : ℕ) (c : Compared) : Type 0 where
  pub more_left : c.wants ≡ Left → (lends ≡ false) × (length (drop c.left left) < limit)
  pub more_right : c.wants ≡ Right → (rends ≡ false) × (length (drop c.right right) < limit)
  pub more_room : c.wants ≡ Room → room < c.written + longest_turn
  pub refuses : is_refused c.wants ≡ true → greatest < n + d + 1 + length left + length right

module _ (left right : List ℕ) (lends rends : Bool) (n d : ℕ) (out : List ℕ) {outAfter : List ℕ} {c : Compared}
    (is : (c, outAfter) ≡ compared_of left lends right rends n d out) where
  pub call_asks : Asks left right lends rends n d (length out) c
  unfolding compared_of is_within
  call_asks =
      by_test (is_counted n d (length left) (length right))
      (λ good.
      let k = compare_of (length out) n d lends rends left right in
      let e : ◌≡◌ {A = Compared × List ℕ} (c, outAfter) (shown k, pasted out 0 k.text) = is ∙ rw good in
      let h = never_stuck (length out) n d lends rends left right in
      subst (Asks left right lends rends n d (length out)) (sym (ap (λ (x : Compared × List ℕ). x.0) e))
      (record {
        more_left = h.left;
        more_right = h.right;
        more_room = h.full;
        refuses = λ q. absurd (true≢false (sym q ∙ h.never));
      }))
      (λ bad.
      let e : ◌≡◌ {A = Compared × List ℕ} (c, outAfter) (shown (stays n d (Refused PositionRange)), out) = is ∙ rw bad in
      subst (Asks left right lends rends n d (length out)) (sym (ap (λ (x : Compared × List ℕ). x.0) e))
      (record {
        more_left = λ q. absurd (true≢false (sym (ap wants_left q)));
        more_right = λ q. absurd (true≢false (sym (ap wants_right q)));
        more_room = λ q. absurd (true≢false (sym (ap goes_on q)));
        refuses = λ q. leb-false (n + d + 1 + length left + length right) greatest bad;
      }))

  whole_by : (w : Wants) → c.wants ≡ w → lends ≡ true → rends ≡ true → n + d + 1 + length left + length right ≤ greatest
      → c.written + longest_turn ≤ length out → is_whole w ≡ true
  whole_by Left e l r counted room = absurd (true≢false (sym l ∙ (call_asks.more_left e).0))
  whole_by Right e l r counted room = absurd (true≢false (sym r ∙ (call_asks.more_right e).0))
  whole_by Room e l r counted room = absurd (omega (arith, call_asks.more_room e))
  whole_by Nothing e l r counted room = refl
  whole_by (Refused x) e l r counted room = absurd (omega (arith, counted, call_asks.refuses (ap is_refused e)))

  -- both uploads have ended, what is left can be counted, and there is room behind what was written: then that is all
  pub comes_to_its_end : lends ≡ true → rends ≡ true → n + d + 1 + length left + length right ≤ greatest → c.written + longest_turn ≤ length out
      → is_whole c.wants ≡ true
  comes_to_its_end = whole_by c.wants refl
