-- What a turn comes to, test by test.
-- Assumes nothing.
use mathlib.Core.Path.{◌≡◌, refl, sym, ap, ap₂, ◌∙◌, subst}
use mathlib.Core.Bool.{Bool, true, false, ◌&&◌}
use mathlib.Core.List.{List, ◌++◌}
use Prim.Native.Nat.{ℕ, ◌+◌, ◌%◌, ◌≤◌}
use native.Mathlib.Nat.{add-zero}
use native.Mathlib.Numerals.{add-one}
use native.Mathlib.Omega.{arith}
use lib.ListN.{length}
use Rattle.base.specs.Same.{same_bytes}
use Rattle.base.proofs.Same.{same_self}
use Rattle.reading.specs.Reading.{limit, First, stops, first}
use Rattle.reading.specs.Call.{dropped_by}
use Rattle.lines.specs.Lines.{leading, held_line}
use Rattle.lines.specs.Put.{Puts}
use Rattle.lines.proofs.Puts.{puts_none, puts_as, puts_then}
use Rattle.pairs.specs.Pairs.{pair, side_of, side_row, agrees}
use Rattle.pairs.specs.Comparison.{tail_word, bare, side_text, beside, place_line, tail_line, last_line, if_same, if_other}
use Rattle.comparing.specs.Call.{Comparing, stays, settles, closes, hungry, turn_of, longest_tails, longest_last, longest_pair, longest_turn}
use Rattle.comparing.specs.Next.{Finds, Again}
use Rattle.comparing.specs.Parts.{Turns}
use Rattle.comparing.specs.declared.next.Next.{Next}
use Rattle.comparing.specs.declared.turn.Turned.{Turned}
use Rattle.comparing.specs.declared.Wants.{Wants}
use Rattle.comparing.specs.declared.Wants.TheVariants.{Left, Right, Room, Nothing}

-- ---- Which it is

module _ (n d : ℕ) (lends rends : Bool) (s t : List ℕ) where
  abbrev f : First
  f = first limit s

  abbrev g : First
  g = first limit t

  pub turn_left : hungry lends f ≡ true → turn_of n d lends rends s t ≡ stays n d Left
  unfolding turn_of
  turn_left e = simp e

  module _ (fed : hungry lends f ≡ false) where
    pub turn_right : hungry rends g ≡ true → turn_of n d lends rends s t ≡ stays n d Right
    unfolding turn_of
    turn_right e = simp (fed, e)

    module _ (fed' : hungry rends g ≡ false) where
      pub turn_closes : stops f && stops g ≡ true → turn_of n d lends rends s t ≡ closes n d s t
      unfolding turn_of
      turn_closes e = simp (fed, fed', e)

      pub turn_settles : stops f && stops g ≡ false → turn_of n d lends rends s t ≡ settles n d f g
      unfolding turn_of
      turn_settles e = simp (fed, fed', e)

-- ---- The code's part in each

pub turns_as : {c c' : Comparing} {out outAfter : List ℕ} {at : ℕ} {r : Turned} → c' ≡ c → Turns c out at outAfter r → Turns c' out at outAfter r
turns_as {out = out} {outAfter} {at} {r} e t = subst (λ (x : Comparing). Turns x out at outAfter r) (sym e) t

pub stayed : (n d : ℕ) (w : Wants) (out : List ℕ) (at : ℕ) {r : Turned}
    → r ≡ record { left = 0; right = 0; counts = record { agree = n; differ = d }; at = at; wants = w } → Turns (stays n d w) out at out r
stayed n d w out at e =
    subst (λ (x : Turned). Turns (stays n d w) out at out x) (sym e)
    (record { left_is = refl; right_is = refl; agree_is = refl; differ_is = refl; wants_is = refl; puts = puts_none; short = omega arith })

module _ {left right : List ℕ} {a b : Next} (p : Finds left a) (q : Finds right b) (n d : ℕ) where
  abbrev f' : First
  f' = first limit left

  abbrev g' : First
  g' = first limit right

  abbrev agree : Bool
  agree = agrees (pair (side_of f') (side_of g'))

  pub settled_same : {out : List ℕ} {at : ℕ} → agree ≡ true
      → Turns (settles n d f' g') out at out (record { left = a.size; right = b.size; counts = record { agree = n + 1; differ = d }; at = at; wants = Room })
  unfolding place_line
  settled_same e = record {
    left_is = p.size_is;
    right_is = q.size_is;
    agree_is = ap (λ (t : Bool). n + if_same t) (sym e);
    differ_is = sym (add-zero d) ∙ ap (λ (t : Bool). d + if_other t) (sym e);
    wants_is = refl;
    puts = puts_as (simp e) puts_none;
    short = omega arith;
  }

  pub settled_other : {out outAfter : List ℕ} {at r : ℕ} → agree ≡ false
      → Puts out at (beside (leading (n + d + 1)) (side_text (side_of f')) (side_text (side_of g'))) outAfter r → r ≤ at + longest_pair
      → Turns (settles n d f' g') out at outAfter (record { left = a.size; right = b.size; counts = record { agree = n; differ = d + 1 }; at = r; wants = Room })
  unfolding place_line
  settled_other e put short = record {
    left_is = p.size_is;
    right_is = q.size_is;
    agree_is = sym (add-zero n) ∙ ap (λ (t : Bool). n + if_same t) (sym e);
    differ_is = ap (λ (t : Bool). d + if_other t) (sym e);
    wants_is = refl;
    puts = puts_as
        (simp e (ap (λ (k : ℕ). beside (leading k) (side_text (side_of f')) (side_text (side_of g'))) (sym (add-one (n + d))))) put;
    short = omega arith;
  }

-- a frame that the right upload goes on with
pub settled_again : {left right : List ℕ} {a : Next} (p : Finds left a) (again : Again left right a) (n d : ℕ) (lends rends : Bool) {out : List ℕ} {at : ℕ}
    → Turns (turn_of n d lends rends left right) out at out (record { left = a.size; right = a.size; counts = record { agree = n + 1; differ = d }; at = at; wants = Room })
unfolding place_line
settled_again {left} {right} {a} p again n d lends rends =
    let f = first limit left in
    let g = first limit right in
    let none : stops g ≡ false = ap stops again.same ∙ again.some in
    let same : agrees (pair (side_of f) (side_of g)) ≡ true =
    ap (λ (x : First). agrees (pair (side_of f) (side_of x))) again.same ∙ same_self (side_row (side_of f)) in
    turns_as
    (turn_settles n d lends rends left right (simp again.some) (simp none) (simp again.some))
    (record {
      left_is = p.size_is;
      right_is = p.size_is ∙ ap dropped_by (sym again.same);
      agree_is = ap (λ (t : Bool). n + if_same t) (sym same);
      differ_is = sym (add-zero d) ∙ ap (λ (t : Bool). d + if_other t) (sym same);
      wants_is = refl;
      puts = puts_as (simp same) puts_none;
      short = omega arith;
    })

-- the tails
module _ (s t : List ℕ) (n d : ℕ) {out : List ℕ} {at : ℕ} where
  pub closed_same : {outAfter : List ℕ} {r : ℕ} → same_bytes s t ≡ true → Puts out at (last_line (n + 1) d) outAfter r → r ≤ at + longest_last
      → Turns (closes n d s t) out at outAfter (record { left = 0; right = 0; counts = record { agree = n + 1; differ = d }; at = r; wants = Nothing })
  unfolding tail_line
  closed_same e put short = record {
    left_is = refl;
    right_is = refl;
    agree_is = ap (λ (t : Bool). n + if_same t) (sym e);
    differ_is = sym (add-zero d) ∙ ap (λ (t : Bool). d + if_other t) (sym e);
    wants_is = refl;
    puts = puts_as (simp e (ap (last_line (n + 1)) (add-zero d))) put;
    short = omega arith;
  }

  pub closed_other : {between outAfter : List ℕ} {k r l m : ℕ} → same_bytes s t ≡ false → l ≡ length s % 256 → m ≡ length t % 256
      → length s ≤ 63 → length t ≤ 63 → at + longest_turn ≤ length out
      → Puts out at (beside tail_word (bare (held_line l)) (bare (held_line m))) between k → k ≤ at + longest_tails
      → Puts between k (last_line n (d + 1)) outAfter r → r ≤ k + longest_last
      → Turns (closes n d s t) out at outAfter (record { left = 0; right = 0; counts = record { agree = n; differ = d + 1 }; at = r; wants = Nothing })
  unfolding tail_line
  closed_other {l = l} {m = m} e left right few few' room tails short last short' = record {
    left_is = refl;
    right_is = refl;
    agree_is = sym (add-zero n) ∙ ap (λ (t : Bool). n + if_same t) (sym e);
    differ_is = ap (λ (t : Bool). d + if_other t) (sym e);
    wants_is = refl;
    puts = puts_as
        (simp e
        (let lefts : length s ≡ l = omega arith in
        let rights : length t ≡ m = omega arith in
        ap₂ (λ (x y : ℕ). beside tail_word (bare (held_line x)) (bare (held_line y)) ++ last_line (n + 0) (d + 1)) lefts rights
        ∙ ap (λ (k : ℕ). beside tail_word (bare (held_line l)) (bare (held_line m)) ++ last_line k (d + 1)) (add-zero n)))
        (puts_then (omega (arith, tails.next)) tails last);
    short = omega arith;
  }
