-- The text of two readings, pair by pair.
-- Assumes nothing.
use mathlib.Core.Path.{◌≡◌, refl, sym, ap, ◌∙◌}
use mathlib.Core.List.{List, [], ◌∷◌, ◌++◌, append_assoc}
use Prim.Native.Nat.{ℕ, suc, ◌+◌}
use native.Mathlib.Nat.{zero-add}
use native.Mathlib.Omega.{arith}
use Rattle.base.specs.Same.{same_bytes}
use Rattle.base.proofs.Tests.{by_test}
use Rattle.reading.specs.Answer.{Answer}
use Rattle.reading.specs.Reading.{First, stop, says, Reading, ◌⊕◌}
use Rattle.reading.specs.History.{answered}
use Rattle.pairs.specs.Pairs.{ended, gave, side_of, Pair, pair, pairs_of, agrees, agreeing, differing}
use Rattle.pairs.specs.Comparison.{place_line, lines_from, tail_line, last_line, if_same, if_other, agreed, differed, text_from}

-- the text of some pairs, with the tails s and t behind them
abbrev text_of : ℕ → ℕ → List Pair → List ℕ → List ℕ → List ℕ
text_of n d ps s t =
    lines_from (suc (n + d)) ps ++ (tail_line s t ++ last_line (n + (agreeing ps + if_same (same_bytes s t))) (d + (differing ps + if_other (same_bytes s t))))

numbers : (ps : List Pair) (tails : List ℕ) {k k' a a' b b' : ℕ} → k ≡ k' → a ≡ a' → b ≡ b'
    → lines_from k ps ++ (tails ++ last_line a b) ≡ lines_from k' ps ++ (tails ++ last_line a' b')
numbers ps tails p q r = cc

one_more : (n d : ℕ) (p : Pair) (ps : List Pair) (s t : List ℕ)
    → text_of n d (p ∷ ps) s t ≡ place_line (suc (n + d)) p ++ text_of (n + if_same (agrees p)) (d + if_other (agrees p)) ps s t
unfolding lines_from agreeing differing
one_more n d p ps s t =
    append_assoc (place_line (suc (n + d)) p) (lines_from (suc (suc (n + d))) ps) _
    ∙ ap (λ (x : List ℕ). place_line (suc (n + d)) p ++ x)
    (by_test (agrees p)
    (λ e. simp e (numbers ps (tail_line s t) (omega arith) (omega arith) (omega arith)))
    (λ e. simp e (numbers ps (tail_line s t) (omega arith) (omega arith) (omega arith))))

-- the counts
one_more_agrees : (n : ℕ) (p : Pair) (ps : List Pair) (k : ℕ) → n + (agreeing (p ∷ ps) + k) ≡ n + if_same (agrees p) + (agreeing ps + k)
unfolding agreeing
one_more_agrees n p ps k = by_test (agrees p) (λ e. simp e (omega arith)) (λ e. simp e (omega arith))

one_more_differs : (d : ℕ) (p : Pair) (ps : List Pair) (k : ℕ) → d + (differing (p ∷ ps) + k) ≡ d + if_other (agrees p) + (differing ps + k)
unfolding differing
one_more_differs d p ps k = by_test (agrees p) (λ e. simp e (omega arith)) (λ e. simp e (omega arith))

-- what stands first on both sides, where something does on one, is the next pair; a side where nothing does has no more answers
next_pairs : (f g : First) (xs ys : List Answer) → (f ≡ stop → xs ≡ []) → (g ≡ stop → ys ≡ []) → ((f ≡ stop) × (g ≡ stop) → ⊥)
    → pairs_of (answered f ++ xs) (answered g ++ ys) ≡ pair (side_of f) (side_of g) ∷ pairs_of xs ys
unfolding pairs_of answered
next_pairs stop stop xs ys none_left none_right some = absurd (some (refl, refl))
next_pairs stop (says b) xs ys none_left none_right some =
    ap (λ (l : List Answer). pairs_of l (b ∷ ys)) (none_left refl) ∙ ap (λ (l : List Answer). pair ended (gave b) ∷ pairs_of l ys) (sym (none_left refl))
next_pairs (says a) stop xs ys none_left none_right some =
    ap (λ (l : List Answer). pairs_of (a ∷ xs) l) (none_right refl) ∙ ap (λ (l : List Answer). pair (gave a) ended ∷ pairs_of xs l) (sym (none_right refl))
next_pairs (says a) (says b) xs ys none_left none_right some = refl

module _ (f g : First) (x y : Reading) (none_left : f ≡ stop → x.answers ≡ []) (none_right : g ≡ stop → y.answers ≡ []) (some : (f ≡ stop) × (g ≡ stop) → ⊥) where
  abbrev p : Pair
  p = pair (side_of f) (side_of g)

  abbrev rest : List Pair
  rest = pairs_of x.answers y.answers

  first_is : pairs_of (answered f ++ x.answers) (answered g ++ y.answers) ≡ p ∷ rest
  first_is = next_pairs f g x.answers y.answers none_left none_right some

  pub next_pair : (n d : ℕ)
      → text_from n d (answered f ⊕ x) (answered g ⊕ y) ≡ place_line (suc (n + d)) p ++ text_from (n + if_same (agrees p)) (d + if_other (agrees p)) x y
  unfolding text_from
  next_pair n d = ap (λ (ps : List Pair). text_of n d ps x.tail y.tail) first_is ∙ one_more n d p rest x.tail y.tail

  pub next_agreed : (n : ℕ) → n + agreed (answered f ⊕ x) (answered g ⊕ y) ≡ n + if_same (agrees p) + agreed x y
  next_agreed n = let k = if_same (same_bytes x.tail y.tail) in ap (λ (ps : List Pair). n + (agreeing ps + k)) first_is ∙ one_more_agrees n p rest k

  pub next_differed : (d : ℕ) → d + differed (answered f ⊕ x) (answered g ⊕ y) ≡ d + if_other (agrees p) + differed x y
  next_differed d = let k = if_other (same_bytes x.tail y.tail) in ap (λ (ps : List Pair). d + (differing ps + k)) first_is ∙ one_more_differs d p rest k

-- no pair is left but the tails'
pub at_end : (n d : ℕ) (s t : List ℕ)
    → text_from n d (record { answers = []; tail = s }) (record { answers = []; tail = t })
    ≡ tail_line s t ++ last_line (n + if_same (same_bytes s t)) (d + if_other (same_bytes s t))
unfolding text_from lines_from pairs_of agreeing differing
at_end n d s t = simp zero-add

pub end_agreed : (s t : List ℕ) → agreed (record { answers = []; tail = s }) (record { answers = []; tail = t }) ≡ if_same (same_bytes s t)
unfolding pairs_of agreeing
end_agreed s t = zero-add (if_same (same_bytes s t))

pub end_differed : (s t : List ℕ) → differed (record { answers = []; tail = s }) (record { answers = []; tail = t }) ≡ if_other (same_bytes s t)
unfolding pairs_of differing
end_differed s t = zero-add (if_other (same_bytes s t))
