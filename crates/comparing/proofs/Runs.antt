-- Any run of the code, over any pieces of both uploads: what was written begins the text of the comparison, and with the call that ends it is all of it:
-- no difference is missed, and none invented (RULES 19).
-- Assumes nothing.
use mathlib.Core.Path.{◌≡◌, refl, sym, ap, ap₂, ◌∙◌}
use mathlib.Core.Bool.{Bool, true, false, true≢false}
use mathlib.Core.List.{List, [], ◌++◌, append_assoc, append-nil}
use Prim.Native.Nat.{ℕ, suc, ◌+◌}
use native.Mathlib.Nat.{zero-add}
use lib.ListN.{length, take, drop}
use lib.Seq.{take_at}
use Rattle.base.specs.Parts.{pasted}
use Rattle.base.proofs.Parts.{pasted_front}
use Rattle.base.proofs.Tests.{by_test}
use Rattle.refusals.specs.declared.Refusal.TheVariants.{PositionRange}
use Rattle.reading.specs.Reading.{limit, Reading, reading}
use Rattle.pairs.specs.Comparison.{agreed, differed, text_from, comparison}
use Rattle.comparing.specs.Call.{Comparing, stays, is_whole, compare_of, shown, is_counted, compared_of}
use Rattle.comparing.specs.Run.{Upload, Lent, Run, begin, offer_left, offer_right, end_left, end_right, call}
use Rattle.comparing.specs.declared.Compared.{Compared}
use Rattle.comparing.specs.declared.Wants.TheVariants.{Refused}
use Rattle.comparing.proofs.Carried.{Told, tell, Carried, stayed, carried}
use Rattle.comparing.proofs.Carried as told

-- a comparison, and what was shown of it
pub record Shows (c : Compared) (outAfter : List ℕ) (is : Comparing) : Type 0 where
  pub result : c ≡ shown is
  pub written : take c.written outAfter ≡ is.text

front : (out text : List ℕ) → take (length text) (pasted out 0 text) ≡ text
front out text = ap (take (length text)) (pasted_front out text) ∙ take_at text (drop (length text) out) (length text) refl

shown_by : (out : List ℕ) {outAfter : List ℕ} {c : Compared} (k : Comparing)
    → ◌≡◌ {A = Compared × List ℕ} (c, outAfter) (shown k, pasted out 0 k.text) → Shows c outAfter k
shown_by out k e =
    let result = ap (λ (x : Compared × List ℕ). x.0) e in
    record {
      result = result;
      written = ap₂ take (ap (λ (x : Compared). x.written) result) (ap (λ (x : Compared × List ℕ). x.1) e) ∙ front out k.text;
    }

-- a call is one of these, whatever it was lent
module _ (left right : List ℕ) (lends rends : Bool) (n d : ℕ) (out : List ℕ) {outAfter : List ℕ} {c : Compared}
    (is : (c, outAfter) ≡ compared_of left lends right rends n d out) where
  pub any_call : {G : Type 0} → ((k : Comparing) → Shows c outAfter k
      → ((x y : List ℕ) → (lends ≡ true → x ≡ []) → (rends ≡ true → y ≡ []) → Carried n d lends rends left right x y k) → G) → G
  unfolding compared_of
  any_call go =
      by_test (is_counted n d (length left) (length right))
      (λ good.
      let k = compare_of (length out) n d lends rends left right in
      go k (shown_by out k (is ∙ rw good)) (λ x y p q. carried (suc (length left + length right)) (length out) n d lends rends left right x y p q))
      (λ bad.
      let e : ◌≡◌ {A = Compared × List ℕ} (c, outAfter) (shown (stays n d (Refused PositionRange)), out) = is ∙ rw bad in
      let result = ap (λ (x : Compared × List ℕ). x.0) e in
      go (stays n d (Refused PositionRange)) (record { result = result; written = ap (λ (x : Compared). take x.written outAfter) result })
      (λ x y p q. stayed n d lends rends left right x y (Refused PositionRange) refl))

-- ---- Any history of calls

pub record Kept (l r : Upload) (n d : ℕ) (text : List ℕ) : Type 0 where
  pub so_far : (x y : List ℕ) → (l.ends ≡ true → x ≡ []) → (r.ends ≡ true → y ≡ [])
      → tell 0 0 (reading limit (l.stream ++ x)) (reading limit (r.stream ++ y))
      ≡ told.begin text (tell n d (reading limit (l.unread ++ x)) (reading limit (r.unread ++ y)))

-- what a call is lent, and what comes behind it
module _ {u : Upload} {input later : List ℕ} {ends : Bool} (lent : Lent u input later ends) where
  lent_is : (x : List ℕ) → reading limit (u.unread ++ x) ≡ reading limit (input ++ (later ++ x))
  lent_is x = ap (reading limit) (ap (λ (s : List ℕ). s ++ x) lent.is ∙ append_assoc input later x)

  lent_all : (x : List ℕ) → (u.ends ≡ true → x ≡ []) → ends ≡ true → later ++ x ≡ []
  lent_all x p e = let all = lent.all e in ap₂ (λ (a b : List ℕ). a ++ b) all.1 (p all.0)

left_on : (c : Compared) (k : Comparing) → c ≡ shown k → (input later x : List ℕ)
    → reading limit (drop k.left input ++ (later ++ x)) ≡ reading limit (drop c.left input ++ later ++ x)
left_on c k e input later x =
    ap (reading limit) (sym (append_assoc (drop k.left input) later x) ∙ ap (λ (z : Compared). drop z.left input ++ later ++ x) (sym e))

right_on : (c : Compared) (k : Comparing) → c ≡ shown k → (input later x : List ℕ)
    → reading limit (drop k.right input ++ (later ++ x)) ≡ reading limit (drop c.right input ++ later ++ x)
right_on c k e input later x =
    ap (reading limit) (sym (append_assoc (drop k.right input) later x) ∙ ap (λ (z : Compared). drop z.right input ++ later ++ x) (sym e))

pub kept : {l r : Upload} {n d : ℕ} {text : List ℕ} → Run l r n d text → Kept l r n d text
kept begin = record { so_far = λ x y p q. refl }
kept (offer_left {l} {r} {n} {d} {text} piece going run) = record {
  so_far = λ x y p q.
      ap (λ (s : List ℕ). tell 0 0 (reading limit s) (reading limit (r.stream ++ y))) (append_assoc l.stream piece x)
      ∙ (kept run).so_far (piece ++ x) y (λ e. absurd (true≢false (sym e ∙ going))) q
      ∙ ap (λ (s : List ℕ). told.begin text (tell n d (reading limit s) (reading limit (r.unread ++ y)))) (sym (append_assoc l.unread piece x));
}
kept (offer_right {l} {r} {n} {d} {text} piece going run) = record {
  so_far = λ x y p q.
      ap (λ (s : List ℕ). tell 0 0 (reading limit (l.stream ++ x)) (reading limit s)) (append_assoc r.stream piece y)
      ∙ (kept run).so_far x (piece ++ y) p (λ e. absurd (true≢false (sym e ∙ going)))
      ∙ ap (λ (s : List ℕ). told.begin text (tell n d (reading limit (l.unread ++ x)) (reading limit s))) (sym (append_assoc r.unread piece y));
}
kept (end_left run) = record { so_far = λ x y p q. (kept run).so_far x y (λ _. p refl) q }
kept (end_right run) = record { so_far = λ x y p q. (kept run).so_far x y p (λ _. q refl) }
kept (call {l} {r} {n} {d} {text} {left} {llater} {right} {rlater} lends rends out {outAfter} {c} run lent lent' is goes) = record {
  so_far = λ x y p q.
      any_call left right lends rends n d out is
      (λ k shows carries.
      let more : is_whole k.wants ≡ false = ap (λ (z : Compared). is_whole z.wants) (sym shows.result) ∙ goes in
      let rest : Told =
      tell k.agree k.differ (reading limit (drop k.left left ++ (llater ++ x))) (reading limit (drop k.right right ++ (rlater ++ y))) in
      (kept run).so_far x y p q
      ∙ ap₂ (λ (a b : Reading). told.begin text (tell n d a b)) (lent_is lent x) (lent_is lent' y)
      ∙ ap (told.begin text) ((carries (llater ++ x) (rlater ++ y) (lent_all lent x p) (lent_all lent' y q)).so_far more)
      ∙ told.begin_begin text k.text rest
      ∙ ap (λ (t : List ℕ). told.begin (text ++ t) rest) (sym shows.written)
      ∙ ap₂ (λ (a b : Reading). told.begin (text ++ take c.written outAfter) (tell k.agree k.differ a b))
      (left_on c k shows.result left llater x) (right_on c k shows.result right rlater y)
      ∙ ap (λ (z : Compared).
      told.begin (text ++ take c.written outAfter)
      (tell z.counts.agree z.counts.differ (reading limit (drop c.left left ++ llater ++ x)) (reading limit (drop c.right right ++ rlater ++ y))))
      (sym shows.result));
}

-- a text begins another
pub record Begins (text whole : List ℕ) : Type 0 where
  pub rest : List ℕ
  pub is : whole ≡ text ++ rest

module _ {l r : Upload} {n d : ℕ} {text : List ℕ} (run : Run l r n d text) where
  -- what was written begins the text, whatever is still to come of an upload that has not ended
  pub begins : (x y : List ℕ) → (l.ends ≡ true → x ≡ []) → (r.ends ≡ true → y ≡ []) → Begins text (comparison limit (l.stream ++ x) (r.stream ++ y))
  begins x y p q = record {
    rest = text_from n d (reading limit (l.unread ++ x)) (reading limit (r.unread ++ y));
    is = ap (λ (t : Told). t.text) ((kept run).so_far x y p q);
  }

-- a call that asks for nothing: both uploads have ended, all of the text is written, and the counts are those of all pairs
pub record Whole (l r : Upload) (text : List ℕ) (agree differ : ℕ) : Type 0 where
  pub left_ends : l.ends ≡ true
  pub right_ends : r.ends ≡ true
  pub text_is : text ≡ comparison limit l.stream r.stream
  pub agree_is : agree ≡ agreed (reading limit l.stream) (reading limit r.stream)
  pub differ_is : differ ≡ differed (reading limit l.stream) (reading limit r.stream)

pub whole : {l r : Upload} {n d : ℕ} {text : List ℕ} (left llater right rlater : List ℕ) (lends rends : Bool) (out : List ℕ) {outAfter : List ℕ} {c : Compared}
    → Run l r n d text → Lent l left llater lends → Lent r right rlater rends
    → (c, outAfter) ≡ compared_of left lends right rends n d out → is_whole c.wants ≡ true
    → Whole l r (text ++ take c.written outAfter) c.counts.agree c.counts.differ
whole {l} {r} {n} {d} {text} left llater right rlater lends rends out {outAfter} {c} run lent lent' is done =
    any_call left right lends rends n d out is
    (λ k shows carries.
    let all : is_whole k.wants ≡ true = ap (λ (z : Compared). is_whole z.wants) (sym shows.result) ∙ done in
    let ends = (carries [] [] (λ _. refl) (λ _. refl)).over all in
    let told : tell 0 0 (reading limit l.stream) (reading limit r.stream) ≡ record { text = text ++ k.text; agree = k.agree; differ = k.differ } =
    ap₂ (λ (a b : List ℕ). tell 0 0 (reading limit a) (reading limit b)) (sym (append-nil l.stream)) (sym (append-nil r.stream))
    ∙ (kept run).so_far [] [] (λ _. refl) (λ _. refl)
    ∙ ap₂ (λ (a b : Reading). told.begin text (tell n d a b)) (lent_is lent []) (lent_is lent' [])
    ∙ ap (told.begin text) ((carries (llater ++ []) (rlater ++ []) (lent_all lent [] (λ _. refl)) (lent_all lent' [] (λ _. refl))).whole all) in
    record {
      left_ends = (lent.all ends.0).0;
      right_ends = (lent'.all ends.1).0;
      text_is = ap (λ (t : List ℕ). text ++ t) shows.written ∙ sym (ap (λ (t : Told). t.text) told);
      agree_is = ap (λ (z : Compared). z.counts.agree) shows.result ∙ sym (ap (λ (t : Told). t.agree) told) ∙ zero-add _;
      differ_is = ap (λ (z : Compared). z.counts.differ) shows.result ∙ sym (ap (λ (t : Told). t.differ) told) ∙ zero-add _;
    })
