-- All that the program diff writes for two uploads (RULES 19).
-- Assumes nothing.
use Rattle.std.specs.Prelude.{ℕ, suc, ◌+◌, ◌-◌, Bool, List, [], ◌∷◌, ◌++◌, length, take}
use Rattle.base.specs.Choice.{when◌then◌else◌}
use Rattle.base.specs.Same.{same_bytes}
use Rattle.reading.specs.Reading.{Reading, reading}
use Rattle.lines.specs.Digits.{decimal}
use Rattle.lines.specs.Lines.{line, held_line, leading, line_end}
use Rattle.pairs.specs.Pairs.{Side, ended, gave, Pair, pairs_of, agrees, agreeing, differing}

-- the words, with their spaces: "tail ", "agree ", "differ ", and the bar between the sides, " | "; and the dash of a side that has ended
abbrev pub tail_word : List ℕ
tail_word = 116 ∷ 97 ∷ 105 ∷ 108 ∷ 32 ∷ []

abbrev pub agree_word : List ℕ
agree_word = 97 ∷ 103 ∷ 114 ∷ 101 ∷ 101 ∷ 32 ∷ []

abbrev pub differ_word : List ℕ
differ_word = 100 ∷ 105 ∷ 102 ∷ 102 ∷ 101 ∷ 114 ∷ 32 ∷ []

abbrev pub bar : List ℕ
bar = 32 ∷ 124 ∷ 32 ∷ []

abbrev pub dash : List ℕ
dash = 45 ∷ []

-- a line of the listing without its end
abbrev pub bare : List ℕ → List ℕ
bare l = take (length l - 1) l

-- a side's listing line, without its end, or a dash
unfoldable pub side_text : Side → List ℕ
side_text ended = dash
side_text (gave a) = bare (line a)

-- what begins a line, the left side, the bar, the right side
unfoldable pub beside : List ℕ → List ℕ → List ℕ → List ℕ
beside lead l r = lead ++ (l ++ (bar ++ (r ++ line_end)))

-- the line of place k, none where the pair agrees
unfoldable pub place_line : ℕ → Pair → List ℕ
place_line k p = when agrees p then [] else beside (leading k) (side_text p.left) (side_text p.right)

-- the lines of the places from k on
unfoldable pub lines_from : ℕ → List Pair → List ℕ
lines_from k [] = []
lines_from k (p ∷ more) = place_line k p ++ lines_from (suc k) more

-- the line of the tails, none where their bytes are the same
unfoldable pub tail_line : List ℕ → List ℕ → List ℕ
tail_line s t = when same_bytes s t then [] else beside tail_word (bare (held_line (length s))) (bare (held_line (length t)))

-- the last line
unfoldable pub last_line : ℕ → ℕ → List ℕ
last_line agree differ = agree_word ++ (leading agree ++ (differ_word ++ (decimal differ ++ line_end)))

-- a pair is one more that agrees, or one more that differs
abbrev pub if_same : Bool → ℕ
if_same t = when t then 1 else 0

abbrev pub if_other : Bool → ℕ
if_other t = when t then 0 else 1

-- how many pairs agree and differ, that of the tails included
abbrev pub agreed : Reading → Reading → ℕ
agreed l r = agreeing (pairs_of l.answers r.answers) + if_same (same_bytes l.tail r.tail)

abbrev pub differed : Reading → Reading → ℕ
differed l r = differing (pairs_of l.answers r.answers) + if_other (same_bytes l.tail r.tail)

-- the text of what is left of two readings, once n pairs agreed and d differed
unfoldable pub text_from : ℕ → ℕ → Reading → Reading → List ℕ
text_from n d l r =
    lines_from (suc (n + d)) (pairs_of l.answers r.answers) ++ (tail_line l.tail r.tail ++ last_line (n + agreed l r) (d + differed l r))

-- the whole text, at the limit m
abbrev pub comparison : ℕ → List ℕ → List ℕ → List ℕ
comparison m left right = text_from 0 0 (reading m left) (reading m right)
