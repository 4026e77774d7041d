-- The loop of a call: what is known at its head, after a turn that goes on, and where it ends.
-- Assumes nothing.
use mathlib.Core.Path.{◌≡◌, refl, sym, ap, ap₂, ◌∙◌, subst}
use mathlib.Core.Bool.{Bool, true, false, true≢false, ◌&&◌}
use mathlib.Core.List.{List, [], ◌++◌, append_assoc, append-nil}
use Prim.Native.Nat.{ℕ, zero, suc, ◌+◌, ◌-◌, ◌≤◌, ◌<◌}
use native.Mathlib.Nat.{add-zero, add_assoc, zero-add, sub-zero}
use native.Mathlib.Omega.{arith}
use borrow.Author.Tests.{le-ltb, lt-ltb}
use lib.ListN.{length, drop, length-drop}
use lib.Seq.{drop-drop}
use Rattle.base.specs.Parts.{pasted}
use Rattle.base.proofs.Tests.{by_test}
use Rattle.reading.specs.Reading.{limit, First, stop, says, stops, first}
use Rattle.reading.specs.Call.{dropped_by}
use Rattle.reading.specs.Positions.{greatest}
use Rattle.reading.proofs.First.{stands}
use Rattle.lines.specs.Put.{Puts}
use Rattle.lines.proofs.Puts.{puts_none, puts_then, length_puts}
use Rattle.pairs.specs.Pairs.{pair, side_of, agrees}
use Rattle.pairs.specs.Comparison.{if_same, if_other}
use Rattle.comparing.specs.Call.{Comparing, stays, settles, closes, hungry, turn_of, goes_on, after, longest_turn, turns_within, compare_of, shown, Within}
use Rattle.comparing.specs.Parts.{Turns}
use Rattle.comparing.specs.declared.Compared.{Compared}
use Rattle.comparing.specs.declared.turn.Turned.{Turned}
use Rattle.comparing.specs.declared.Wants.{Wants}
use Rattle.comparing.specs.declared.Wants.TheVariants.{Left, Right, Room}
use Rattle.comparing.proofs.Turned.{turn_left, turn_right, turn_closes, turn_settles}

-- ---- A turn, by cases

module _ (n d : ℕ) (lends rends : Bool) (s t : List ℕ) where
  abbrev f : First
  f = first limit s

  abbrev g : First
  g = first limit t

  pub by_turn : (P : Comparing → Type 0)
      → (hungry lends f ≡ true → P (stays n d Left))
      → (hungry lends f ≡ false → hungry rends g ≡ true → P (stays n d Right))
      → (hungry lends f ≡ false → hungry rends g ≡ false → stops f && stops g ≡ true → P (closes n d s t))
      → (hungry lends f ≡ false → hungry rends g ≡ false → stops f && stops g ≡ false → P (settles n d f g))
      → P (turn_of n d lends rends s t)
  by_turn P left right close settle =
      by_test (hungry lends f) (λ e. subst P (sym (turn_left n d lends rends s t e)) (left e))
      (λ fed.
      by_test (hungry rends g) (λ e. subst P (sym (turn_right n d lends rends s t fed e)) (right fed e))
      (λ fed'.
      by_test (stops f && stops g) (λ e. subst P (sym (turn_closes n d lends rends s t fed fed' e)) (close fed fed' e))
      (λ e. subst P (sym (turn_settles n d lends rends s t fed fed' e)) (settle fed fed' e))))

-- what is dropped is there, and is something where there is an answer
dropped_in_lem : (s : List ℕ) (f : First) → first limit s ≡ f → dropped_by f ≤ length s
unfolding dropped_by
dropped_in_lem s stop e = omega arith
dropped_in_lem s (says a) e = let h = stands limit s a e in omega (arith, h.within, h.inside)

dropped_some : (s : List ℕ) (f : First) → first limit s ≡ f → stops f ≡ false → 1 ≤ dropped_by f
unfolding dropped_by stops
dropped_some s stop e none = absurd (true≢false none)
dropped_some s (says a) e none = (stands limit s a e).some

one_counted : (n d : ℕ) (b : Bool) → (n + if_same b) + (d + if_other b) ≡ n + d + 1
one_counted n d true = omega arith
one_counted n d false = omega arith

pub record Sized (n d : ℕ) (s t : List ℕ) (c : Comparing) : Type 0 where
  pub left_in : c.left ≤ length s
  pub right_in : c.right ≤ length t
  -- a turn that goes on takes a byte at least, and counts one pair
  pub some : goes_on c.wants ≡ true → 1 ≤ c.left + c.right
  pub one : goes_on c.wants ≡ true → c.agree + c.differ ≡ n + d + 1

some_dropped : (s t : List ℕ) (b c : Bool) → stops (first limit s) ≡ b → stops (first limit t) ≡ c → b && c ≡ false
    → 1 ≤ dropped_by (first limit s) + dropped_by (first limit t)
some_dropped s t true c p q e = let h = dropped_some t (first limit t) refl (q ∙ e) in omega (arith, h)
some_dropped s t false c p q e = let h = dropped_some s (first limit s) refl p in omega (arith, h)

pub sized : (n d : ℕ) (lends rends : Bool) (s t : List ℕ) → Sized n d s t (turn_of n d lends rends s t)
sized n d lends rends s t =
    by_turn n d lends rends s t (Sized n d s t)
    (λ e. record { left_in = omega arith; right_in = omega arith; some = λ done. absurd (true≢false (sym done)); one = λ done. absurd (true≢false (sym done)) })
    (λ fed e. record { left_in = omega arith; right_in = omega arith; some = λ done. absurd (true≢false (sym done)); one = λ done. absurd (true≢false (sym done)) })
    (λ fed fed' e. record { left_in = omega arith; right_in = omega arith; some = λ done. absurd (true≢false (sym done)); one = λ done. absurd (true≢false (sym done)) })
    (λ fed fed' e. record {
      left_in = dropped_in_lem s (first limit s) refl;
      right_in = dropped_in_lem t (first limit t) refl;
      some = λ onward. some_dropped s t (stops (first limit s)) (stops (first limit t)) refl refl e;
      one = λ onward. one_counted n d (agrees (pair (side_of (first limit s)) (side_of (first limit t))));
    })

-- ---- The loop

-- what was written and taken
abbrev begun : List ℕ → ℕ → ℕ → Comparing
begun text l r = record { text = text; left = l; right = r; agree = 0; differ = 0; wants = Room }

after_after : (text : List ℕ) (l r : ℕ) (c more : Comparing) → after (begun text l r) (after c more) ≡ after (begun (text ++ c.text) (l + c.left) (r + c.right)) more
after_after text l r c more =
    ap₂ (λ (x : List ℕ) (y : ℕ × ℕ). record { text = x; left = y.0; right = y.1; agree = more.agree; differ = more.differ; wants = more.wants })
    (sym (append_assoc text c.text more.text))
    (ap₂ (λ (a b : ℕ). (a, b)) (sym (add_assoc l c.left more.left)) (sym (add_assoc r c.right more.right)))

after_none : (c : Comparing) → c ≡ after (begun [] 0 0) c
after_none c =
    ap₂ (λ (l r : ℕ). record { text = c.text; left = l; right = r; agree = c.agree; differ = c.differ; wants = c.wants })
    (sym (zero-add c.left)) (sym (zero-add c.right))

-- one turn of those that may be made
module _ (most room n d : ℕ) (lends rends : Bool) (s t : List ℕ) where
  abbrev turned : Comparing
  turned = turn_of n d lends rends s t

  no_room : room < longest_turn → turns_within (suc most) room n d lends rends s t ≡ stays n d Room
  unfolding turns_within
  no_room few = simp (lt-ltb room longest_turn few)

  goes_on_lem : longest_turn ≤ room → goes_on turned.wants ≡ true
      → turns_within (suc most) room n d lends rends s t
      ≡ after turned
      (turns_within most (room - length turned.text) turned.agree turned.differ lends rends (drop turned.left s) (drop turned.right t))
  unfolding turns_within
  goes_on_lem many onward = simp (le-ltb room longest_turn many, onward)

  ends : longest_turn ≤ room → goes_on turned.wants ≡ false → turns_within (suc most) room n d lends rends s t ≡ turned
  unfolding turns_within
  ends many done = simp (le-ltb room longest_turn many, done)

pub record Filling (s : List ℕ) (lends : Bool) (t : List ℕ) (rends : Bool) (wanted : Comparing) (out₀ : List ℕ) (l r n d at : ℕ) (out : List ℕ) : Type 0 where
  pub most : ℕ
  pub text : List ℕ
  pub left_in : l ≤ length s
  pub right_in : r ≤ length t
  pub enough : (length s - l) + (length t - r) < most
  pub counted : n + d + 1 + (length s - l) + (length t - r) ≤ greatest
  pub room : at ≤ length out₀
  pub out_size : length out ≡ length out₀
  pub puts : Puts out₀ 0 text out at
  pub rest : wanted ≡ after (begun text l r) (turns_within most (length out₀ - at) n d lends rends (drop l s) (drop r t))

pub begin : (s : List ℕ) (lends : Bool) (t : List ℕ) (rends : Bool) (n d : ℕ) (out : List ℕ) → n + d + 1 + length s + length t ≤ greatest
    → Filling s lends t rends (compare_of (length out) n d lends rends s t) out 0 0 n d 0 out
begin s lends t rends n d out counted =
    record {
      most = suc (length s + length t);
      text = [];
      left_in = omega arith;
      right_in = omega arith;
      enough = omega arith;
      counted = omega (arith, counted);
      room = omega arith;
      out_size = refl;
      puts = puts_none;
      rest = after_none (compare_of (length out) n d lends rends s t)
          ∙ ap (λ (room : ℕ). after (begun [] 0 0) (turns_within (suc (length s + length t)) room n d lends rends s t)) (sym (sub-zero (length out)));
    }

-- there are turns left
some_left : {G : Type 0} (most k : ℕ) → k < most → ((less : ℕ) → most ≡ suc less → G) → G
some_left zero k h go = absurd (omega arith)
some_left (suc less) k h go = go less refl

as_written : {out₀ text out : List ℕ} {at : ℕ} → Puts out₀ 0 text out at → (at ≡ length text) × (out ≡ pasted out₀ 0 text)
as_written {text = text} p = (p.next ∙ zero-add (length text), p.written)

-- what is shown of a comparison, field by field
shows : (out₀ : List ℕ) {wanted c : Comparing} {out text : List ℕ} {l r n d at : ℕ} {w : Wants} → wanted ≡ c → l ≡ c.left → r ≡ c.right → n ≡ c.agree → d ≡ c.differ
    → w ≡ c.wants → c.text ≡ text → at ≡ length text → out ≡ pasted out₀ 0 text
    → ◌≡◌ {A = Compared × List ℕ} (record { left = l; right = r; counts = record { agree = n; differ = d }; written = at; wants = w }, out) (shown wanted, pasted out₀ 0 wanted.text)
shows out₀ e p q x y z k u v = cc

-- the same turns, with every number another name
same_turns : (most : ℕ) (lends rends : Bool) (text : List ℕ) {l l' r r' room room' n n' d d' : ℕ} {s s' t t' : List ℕ}
    → l ≡ l' → r ≡ r' → room ≡ room' → n ≡ n' → d ≡ d' → s ≡ s' → t ≡ t'
    → after (begun text l r) (turns_within most room n d lends rends s t) ≡ after (begun text l' r') (turns_within most room' n' d' lends rends s' t')
same_turns most lends rends text a b c e f g h = cc

module _ {s : List ℕ} {lends : Bool} {t : List ℕ} {rends : Bool} {wanted : Comparing} {out₀ : List ℕ} {l r n d at : ℕ} {out : List ℕ}
    (fills : Filling s lends t rends wanted out₀ l r n d at out) where
  abbrev c : Comparing
  c = turn_of n d lends rends (drop l s) (drop r t)

  size : Sized n d (drop l s) (drop r t) c
  size = sized n d lends rends (drop l s) (drop r t)

  -- no room is left
  pub full : length out₀ - at < longest_turn
      → ◌≡◌ {A = Compared × List ℕ} (record { left = l; right = r; counts = record { agree = n; differ = d }; written = at; wants = Room }, out) (shown wanted, pasted out₀ 0 wanted.text)
  full few =
      some_left fills.most _ fills.enough
      (λ less e.
      let is : wanted ≡ after (begun fills.text l r) (stays n d Room) =
      fills.rest
      ∙ ap (λ (x : Comparing). after (begun fills.text l r) x)
      (ap (λ (k : ℕ). turns_within k (length out₀ - at) n d lends rends (drop l s) (drop r t)) e ∙ no_room less (length out₀ - at) n d lends rends (drop l s) (drop r t) few) in
      let w = as_written fills.puts in
      shows out₀ is (sym (add-zero l)) (sym (add-zero r)) refl refl refl (append-nil fills.text) w.0 w.1)

  module _ {outAfter : List ℕ} {one : Turned} (many : longest_turn ≤ length out₀ - at) (turns : Turns c out at outAfter one) where
    -- the part of the loop that is the same wherever it goes
    pub takes_left : l + one.left ≤ length s
    takes_left = omega (arith, turns.left_is, size.left_in, length-drop l s, fills.left_in)

    pub takes_right : r + one.right ≤ length t
    takes_right = omega (arith, turns.right_is, size.right_in, length-drop r t, fills.right_in)

    pub in_room : one.at ≤ length out₀
    in_room = omega (arith, turns.short, fills.room)

    more_text : Puts out₀ 0 (fills.text ++ c.text) outAfter one.at
    more_text = puts_then (omega (arith, fills.puts.next, fills.room)) fills.puts turns.puts

    pub same_size : length outAfter ≡ length out₀
    same_size = length_puts (omega (arith, turns.puts.next, turns.short, fills.out_size, fills.room)) turns.puts ∙ fills.out_size

    pub within_turn : Within (length s) (length t) (length out₀)
        (record { left = l + one.left; right = r + one.right; counts = record { agree = one.counts.agree; differ = one.counts.differ }; written = one.at; wants = one.wants })
    within_turn = record { left_in = takes_left; right_in = takes_right; written_in = in_room }

    goes : {b : Bool} → goes_on one.wants ≡ b → goes_on c.wants ≡ b
    goes e = ap goes_on (sym turns.wants_is) ∙ e

    pub less : goes_on one.wants ≡ true → (length s - (l + one.left)) + (length t - (r + one.right)) < (length s - l) + (length t - r)
    less onward =
        omega (
          arith,
          size.some (goes onward),
          turns.left_is,
          turns.right_is,
          size.left_in,
          size.right_in,
          length-drop l s,
          length-drop r t,
          fills.left_in,
          fills.right_in,
        )

    pub again : goes_on one.wants ≡ true → Filling s lends t rends wanted out₀ (l + one.left) (r + one.right) one.counts.agree one.counts.differ one.at outAfter
    again onward =
        some_left fills.most _ fills.enough
        (λ fewer e.
        record {
          most = fewer;
          text = fills.text ++ c.text;
          left_in = takes_left;
          right_in = takes_right;
          enough = omega (arith, less onward, fills.enough);
          counted = omega (arith, fills.counted, less onward, size.one (goes onward), turns.agree_is, turns.differ_is);
          room = in_room;
          out_size = same_size;
          puts = more_text;
          rest = fills.rest
              ∙ ap (λ (k : ℕ). after (begun fills.text l r) (turns_within k (length out₀ - at) n d lends rends (drop l s) (drop r t))) e
              ∙ ap (λ (x : Comparing). after (begun fills.text l r) x)
              (goes_on_lem fewer (length out₀ - at) n d lends rends (drop l s) (drop r t) many (goes onward))
              ∙ after_after fills.text l r c
              (turns_within fewer (length out₀ - at - length c.text) c.agree c.differ lends rends (drop c.left (drop l s)) (drop c.right (drop r t)))
              ∙ same_turns fewer lends rends (fills.text ++ c.text) (ap (λ (k : ℕ). l + k) (sym turns.left_is))
              (ap (λ (k : ℕ). r + k) (sym turns.right_is)) (omega (arith, turns.puts.next)) (sym turns.agree_is) (sym turns.differ_is)
              (drop-drop c.left l s ∙ ap (λ (k : ℕ). drop (l + k) s) (sym turns.left_is))
              (drop-drop c.right r t ∙ ap (λ (k : ℕ). drop (r + k) t) (sym turns.right_is));
        })

    -- the loop ends with this turn
    pub last : goes_on one.wants ≡ false
        → ◌≡◌ {A = Compared × List ℕ}
        (record { left = l + one.left; right = r + one.right; counts = record { agree = one.counts.agree; differ = one.counts.differ }; written = one.at; wants = one.wants }, outAfter)
        (shown wanted, pasted out₀ 0 wanted.text)
    last done =
        some_left fills.most _ fills.enough
        (λ fewer e.
        let is : wanted ≡ after (begun fills.text l r) c =
        fills.rest
        ∙ ap (λ (x : Comparing). after (begun fills.text l r) x)
        (ap (λ (k : ℕ). turns_within k (length out₀ - at) n d lends rends (drop l s) (drop r t)) e
        ∙ ends fewer (length out₀ - at) n d lends rends (drop l s) (drop r t) many (goes done)) in
        let w = as_written more_text in
        shows out₀ is (ap (λ (k : ℕ). l + k) turns.left_is) (ap (λ (k : ℕ). r + k) turns.right_is) turns.agree_is turns.differ_is turns.wants_is refl
        w.0 w.1)
