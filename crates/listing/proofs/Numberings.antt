-- What stands before the lines: the lines of some answers and then of more, what a call adds, and how far a numbering goes.
-- Assumes nothing.
use mathlib.Core.Path.{◌≡◌, refl, sym, ap, ◌∙◌}
use mathlib.Core.List.{List, [], ◌∷◌, ◌++◌, append_assoc, append-nil}
use Prim.Native.Nat.{ℕ, ◌+◌, ◌≤◌}
use native.Mathlib.Omega.{arith}
use Rattle.std.specs.Prelude.{None, Some}
use Rattle.reading.specs.Answer.{Answer}
use Rattle.reading.specs.Reading.{First, stop, says}
use Rattle.reading.specs.History.{answered}
use Rattle.reading.specs.Positions.{behind, numbered}
use Rattle.reading.proofs.Positions.{behind_append, numbered_append}
use Rattle.lines.specs.Lines.{line, lines_of, leading, longest, longest_position}
use Rattle.listing.specs.Numbering.{Numbering, lead, past, numbered_lines, text_of, room_for}

-- ---- Some answers, and then more

lines_of_append : (xs ys : List Answer) → lines_of (xs ++ ys) ≡ lines_of xs ++ lines_of ys
unfolding lines_of
lines_of_append [] ys = refl
lines_of_append (a ∷ xs) ys = ap (λ (l : List ℕ). line a ++ l) (lines_of_append xs ys) ∙ sym (append_assoc (line a) (lines_of xs) (lines_of ys))

numbered_lines_append : (xs ys : List (ℕ × Answer)) → numbered_lines (xs ++ ys) ≡ numbered_lines xs ++ numbered_lines ys
unfolding numbered_lines
numbered_lines_append [] ys = refl
numbered_lines_append ((p, a) ∷ xs) ys =
    ap (λ (l : List ℕ). leading p ++ line a ++ l) (numbered_lines_append xs ys)
    ∙ sym (append_assoc (leading p ++ line a) (numbered_lines xs) (numbered_lines ys))

pub text_append : (n : Numbering) (xs ys : List Answer) → text_of n (xs ++ ys) ≡ text_of n xs ++ text_of (past n xs) ys
text_append None xs ys = lines_of_append xs ys
text_append (Some p) xs ys =
    ap numbered_lines (numbered_append p xs ys) ∙ numbered_lines_append (numbered p xs) (numbered (behind p xs) ys)

pub past_append : (n : Numbering) (xs ys : List Answer) → past n (xs ++ ys) ≡ past (past n xs) ys
past_append None xs ys = refl
past_append (Some p) xs ys = ap Some (behind_append p xs ys)

pub past_none : (n : Numbering) → past n [] ≡ n
past_none None = refl
past_none (Some p) = refl

pub text_none : (n : Numbering) → text_of n [] ≡ []
unfolding lines_of numbered_lines
text_none None = refl
text_none (Some p) = refl

text_one : (n : Numbering) (a : Answer) → text_of n (a ∷ []) ≡ lead n ++ line a
unfolding lines_of numbered_lines
text_one None a = append-nil (line a)
text_one (Some p) a = append-nil (leading p ++ line a)

-- the longest line is as long behind any answers
pub room_past : (n : Numbering) (given : List Answer) → room_for (past n given) ≡ room_for n
room_past None given = refl
room_past (Some p) given = refl

pub room_most : (n : Numbering) → room_for n ≤ longest_position + longest
room_most None = omega arith
room_most (Some p) = omega arith

-- ---- A call: no line where it asks for more, and else that of its answer

pub no_line : {f : First} (n : Numbering) → f ≡ stop → text_of n (answered f) ≡ []
unfolding answered
no_line n e = ap (λ (f : First). text_of n (answered f)) e ∙ text_none n

pub one_line : {f : First} (n : Numbering) (a : Answer) → f ≡ says a → text_of n (answered f) ≡ lead n ++ line a
unfolding answered
one_line n a e = ap (λ (f : First). text_of n (answered f)) e ∙ text_one n a

pub past_stop : {f : First} (n : Numbering) → f ≡ stop → past n (answered f) ≡ n
unfolding answered
past_stop n e = ap (λ (f : First). past n (answered f)) e ∙ past_none n

pub past_says : {f : First} (n : Numbering) (a : Answer) → f ≡ says a → past n (answered f) ≡ past n (a ∷ [])
unfolding answered
past_says n a e = ap (λ (f : First). past n (answered f)) e
