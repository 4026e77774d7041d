-- What a call writes and counts, and then the text of what it leaves, is the text: whatever is still to come of an upload that has not ended.
-- Assumes nothing.
use mathlib.Core.Path.{◌≡◌, refl, sym, ap, ap₂, ◌∙◌}
use mathlib.Core.Bool.{Bool, true, false, true≢false, ◌&&◌, and-eq-true_iff}
use mathlib.Core.List.{List, [], ◌++◌, append_assoc, append-nil}
use Prim.Native.Nat.{ℕ, zero, suc, ◌+◌, ◌-◌}
use lib.Dec.{ltb}
use lib.ListN.{length, drop}
use lib.Seq.{drop-drop}
use Rattle.base.proofs.Tests.{by_test}
use Rattle.reading.specs.Reading.{limit, First, stop, says, stops, first, Reading, reading, ◌⊕◌}
use Rattle.reading.specs.Call.{dropped_by}
use Rattle.reading.specs.History.{answered}
use Rattle.reading.proofs.Reading.{at_stop, at_says_on}
use Rattle.stream.proofs.Loop.{stops_by}
use Rattle.pairs.specs.Comparison.{agreed, differed, text_from}
use Rattle.pairs.proofs.Steps.{next_pair, next_agreed, next_differed, at_end, end_agreed, end_differed}
use Rattle.comparing.specs.Call.{Comparing, stays, settles, closes, hungry, turn_of, goes_on, is_whole, after, longest_turn, turns_within}
use Rattle.comparing.specs.declared.Wants.{Wants}
use Rattle.comparing.specs.declared.Wants.TheVariants.{Left, Right, Room, Nothing, Refused}
use Rattle.comparing.proofs.Filled.{by_turn}

-- text and counts of two readings, behind n pairs that agreed and d that differed
pub record Told : Type 0 where
  pub text : List ℕ
  pub agree : ℕ
  pub differ : ℕ

abbrev pub tell : ℕ → ℕ → Reading → Reading → Told
tell n d l r = record { text = text_from n d l r; agree = n + agreed l r; differ = d + differed l r }

abbrev pub begin : List ℕ → Told → Told
begin text told = record { text = text ++ told.text; agree = told.agree; differ = told.differ }

-- what is to be told of s and t, with x and y behind them
pub record Carried (n d : ℕ) (lends rends : Bool) (s t x y : List ℕ) (c : Comparing) : Type 0 where
  pub so_far : is_whole c.wants ≡ false
      → tell n d (reading limit (s ++ x)) (reading limit (t ++ y))
      ≡ begin c.text (tell c.agree c.differ (reading limit (drop c.left s ++ x)) (reading limit (drop c.right t ++ y)))
  pub whole : is_whole c.wants ≡ true
      → tell n d (reading limit (s ++ x)) (reading limit (t ++ y)) ≡ record { text = c.text; agree = c.agree; differ = c.differ }
  pub over : is_whole c.wants ≡ true → (lends ≡ true) × (rends ≡ true)

-- nothing was done
pub stayed : (n d : ℕ) (lends rends : Bool) (s t x y : List ℕ) (w : Wants) → is_whole w ≡ false → Carried n d lends rends s t x y (stays n d w)
stayed n d lends rends s t x y w e = record {
  so_far = λ _. refl;
  whole = λ q. absurd (true≢false (sym q ∙ e));
  over = λ q. absurd (true≢false (sym q ∙ e));
}

-- a side on which nothing stands first has ended, where no more is asked for
fed_ends : (ends : Bool) (f : First) → hungry ends f ≡ false → stops f ≡ true → ends ≡ true
fed_ends true f fed e = refl
fed_ends false f fed e = absurd (true≢false (simp e at fed))

-- the reading of a side: what stands first, and the rest
reads : (s x : List ℕ) (f : First) → first limit s ≡ f → reading limit (s ++ x) ≡ answered f ⊕ reading limit (drop (dropped_by f) s ++ x)
unfolding answered dropped_by
reads s x stop e = refl
reads s x (says a) e = at_says_on limit s x a e

none_left : (ends : Bool) (s x : List ℕ) → hungry ends (first limit s) ≡ false → (ends ≡ true → x ≡ []) → first limit s ≡ stop
    → (reading limit (drop (dropped_by (first limit s)) s ++ x)).answers ≡ []
unfolding dropped_by stops
none_left ends s x fed last e =
    let x-none = last (fed_ends ends (first limit s) fed (ap stops e)) in
    ap (λ (f : First). (reading limit (drop (dropped_by f) s ++ x)).answers) e
    ∙ ap (λ (l : List ℕ). (reading limit (s ++ l)).answers) x-none
    ∙ ap (λ (l : List ℕ). (reading limit l).answers) (append-nil s)
    ∙ ap (λ (r : Reading). r.answers) (at_stop limit s e)

at_tail : (ends : Bool) (s x : List ℕ) → hungry ends (first limit s) ≡ false → (ends ≡ true → x ≡ []) → first limit s ≡ stop
    → reading limit (s ++ x) ≡ record { answers = []; tail = s }
unfolding stops
at_tail ends s x fed last e =
    ap (λ (l : List ℕ). reading limit (s ++ l)) (last (fed_ends ends (first limit s) fed (ap stops e)))
    ∙ ap (reading limit) (append-nil s)
    ∙ at_stop limit s e

told_as : {text text' : List ℕ} {a a' b b' : ℕ} → text ≡ text' → a ≡ a' → b ≡ b'
    → ◌≡◌ {A = Told} (record { text = text; agree = a; differ = b }) (record { text = text'; agree = a'; differ = b' })
told_as p q r = cc

module _ (n d : ℕ) (lends rends : Bool) (s t x y : List ℕ) (p : lends ≡ true → x ≡ []) (q : rends ≡ true → y ≡ []) where
  abbrev f : First
  f = first limit s

  abbrev g : First
  g = first limit t

  closed : hungry lends f ≡ false → hungry rends g ≡ false → stops f && stops g ≡ true → Carried n d lends rends s t x y (closes n d s t)
  closed fed fed' e =
      let sf = ((and-eq-true_iff (stops f) (stops g)).0 e).0 in
      let sg = ((and-eq-true_iff (stops f) (stops g)).0 e).1 in
      let l = at_tail lends s x fed p (stops_by f sf) in
      let r = at_tail rends t y fed' q (stops_by g sg) in
      record {
        so_far = λ w. absurd (true≢false w);
        whole = λ w. ap₂ (tell n d) l r ∙ told_as (at_end n d s t) (ap (λ (k : ℕ). n + k) (end_agreed s t)) (ap (λ (k : ℕ). d + k) (end_differed s t));
        over = λ w. (fed_ends lends f fed sf, fed_ends rends g fed' sg);
      }

  settled : hungry lends f ≡ false → hungry rends g ≡ false → stops f && stops g ≡ false → Carried n d lends rends s t x y (settles n d f g)
  unfolding stops
  settled fed fed' e =
      let l = reading limit (drop (dropped_by f) s ++ x) in
      let r = reading limit (drop (dropped_by g) t ++ y) in
      let pl = none_left lends s x fed p in
      let pr = none_left rends t y fed' q in
      let some : (f ≡ stop) × (g ≡ stop) → ⊥ = λ z. true≢false (sym (ap₂ (λ (a b : First). stops a && stops b) z.0 z.1) ∙ e) in
      record {
        so_far = λ w.
            ap₂ (tell n d) (reads s x f refl) (reads t y g refl)
            ∙ told_as (next_pair f g l r pl pr some n d) (next_agreed f g l r pl pr some n) (next_differed f g l r pl pr some d);
        whole = λ w. absurd (true≢false (sym w));
        over = λ w. absurd (true≢false (sym w));
      }

  pub turn_carried : Carried n d lends rends s t x y (turn_of n d lends rends s t)
  turn_carried =
      by_turn n d lends rends s t (Carried n d lends rends s t x y)
      (λ e. stayed n d lends rends s t x y Left refl)
      (λ fed e. stayed n d lends rends s t x y Right refl)
      closed
      settled

-- ---- Any number of turns

on_not_whole : (w : Wants) → goes_on w ≡ true → is_whole w ≡ false
on_not_whole Left e = absurd (true≢false (sym e))
on_not_whole Right e = absurd (true≢false (sym e))
on_not_whole Room e = refl
on_not_whole Nothing e = absurd (true≢false (sym e))
on_not_whole (Refused r) e = absurd (true≢false (sym e))

pub begin_begin : (a b : List ℕ) (x : Told) → begin a (begin b x) ≡ begin (a ++ b) x
begin_begin a b x = ap (λ (t : List ℕ). record { text = t; agree = x.agree; differ = x.differ }) (sym (append_assoc a b x.text))

-- a turn that goes on, and then a comparison of what it leaves
both : {n d : ℕ} {lends rends : Bool} {s t x y : List ℕ} (c more : Comparing) → goes_on c.wants ≡ true → Carried n d lends rends s t x y c
    → Carried c.agree c.differ lends rends (drop c.left s) (drop c.right t) x y more → Carried n d lends rends s t x y (after c more)
both {s = s} {t} {x} {y} c more onward one rest =
    let first = one.so_far (on_not_whole c.wants onward) in
    let l : drop more.left (drop c.left s) ≡ drop (c.left + more.left) s = drop-drop more.left c.left s in
    let r : drop more.right (drop c.right t) ≡ drop (c.right + more.right) t = drop-drop more.right c.right t in
    record {
      so_far = λ w.
          first
          ∙ ap (begin c.text) (rest.so_far w)
          ∙ begin_begin c.text more.text _
          ∙ ap₂ (λ (a b : List ℕ). begin (c.text ++ more.text) (tell more.agree more.differ (reading limit (a ++ x)) (reading limit (b ++ y)))) l r;
      whole = λ w. first ∙ ap (begin c.text) (rest.whole w);
      over = rest.over;
    }

pub carried : (most room n d : ℕ) (lends rends : Bool) (s t x y : List ℕ) → (lends ≡ true → x ≡ []) → (rends ≡ true → y ≡ [])
    → Carried n d lends rends s t x y (turns_within most room n d lends rends s t)
unfolding turns_within
carried zero room n d lends rends s t x y p q = stayed n d lends rends s t x y Room refl
carried (suc most) room n d lends rends s t x y p q =
    let c = turn_of n d lends rends s t in
    let one = turn_carried n d lends rends s t x y p q in
    let rest = carried most (room - length c.text) c.agree c.differ lends rends (drop c.left s) (drop c.right t) x y p q in
    by_test (ltb room longest_turn) (λ e. rw e (stayed n d lends rends s t x y Room refl))
    (λ e. by_test (goes_on c.wants) (λ onward. rw (e, onward) (both c _ onward one rest)) (λ done. rw (e, done) one))
