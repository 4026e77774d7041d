-- What the text is for: a line stands at a place exactly if the answers there differ; agree and differ add up to the pairs; equal uploads give the
-- last line alone; and an exchange of the uploads exchanges the sides of each line and keeps both counts.
-- Assumes nothing.
use mathlib.Core.Path.{◌≡◌, refl, sym, ap, ap₂, ◌∙◌}
use mathlib.Core.List.{List, [], ◌∷◌, ◌++◌, map, append_assoc, nil≢cons}
use Prim.Native.Nat.{ℕ, zero, suc, ◌+◌, ◌-◌, ◌<◌}
use native.Mathlib.Nat.{zero-add}
use native.Mathlib.Omega.{arith}
use lib.ListN.{length, take, drop, length-append}
use Rattle.base.specs.Choice.{when◌then◌else◌}
use Rattle.base.specs.Same.{same_bytes}
use Rattle.base.proofs.Same.{same_self, same_bytes_lem, bytes_same, same_swap}
use Rattle.base.proofs.Tests.{by_test}
use Rattle.reading.specs.Answer.{Answer, InvalidSync, InvalidPacketLength, InvalidCrc, Frame, row}
use Rattle.reading.specs.Reading.{Reading, reading}
use Rattle.lines.specs.Lines.{leading, held_line, line_end}
use Rattle.pairs.specs.Pairs.{Side, ended, gave, Pair, pair, pairs_of, side_row, agrees, agreeing, differing}
use Rattle.pairs.specs.Comparison.{tail_word, bar, bare, side_text, beside, place_line, lines_from, tail_line, last_line, agreed, differed, text_from, comparison}

-- ---- A line stands at a place exactly if the answers there differ

-- what an upload has at place i + 1
abbrev pub side_at : List Answer → ℕ → Side
side_at [] i = ended
side_at (a ∷ xs) zero = gave a
side_at (a ∷ xs) (suc i) = side_at xs i

-- there are as many places as the longer has answers
pub places : (xs ys : List Answer) → length (pairs_of xs ys) ≡ length xs + (length ys - length xs)
unfolding pairs_of
places [] [] = refl
places [] (b ∷ ys) = omega (arith, places [] ys)
places (a ∷ xs) [] = omega (arith, places xs [])
places (a ∷ xs) (b ∷ ys) = omega (arith, places xs ys)

-- a line more in front
behind : (k i : ℕ) (p q : Pair) (ps before rest : List Pair)
    → lines_from (suc k) ps ≡ lines_from (suc k) before ++ place_line (i + suc k) q ++ lines_from (suc (i + suc k)) rest
    → place_line k p ++ lines_from (suc k) ps ≡ place_line k p ++ lines_from (suc k) before ++ place_line (suc i + k) q ++ lines_from (suc (suc i + k)) rest
behind k i p q ps before rest e =
    let n : i + suc k ≡ suc i + k = omega arith in
    ap (λ (x : List ℕ). place_line k p ++ x) (e ∙ ap (λ (j : ℕ). lines_from (suc k) before ++ place_line j q ++ lines_from (suc j) rest) n)
    ∙ simp append_assoc

-- the lines are those of the places before i + 1, then that of the answers at that place, then those of the places behind it
pub line_at : (k : ℕ) (xs ys : List Answer) (i : ℕ) → i < length (pairs_of xs ys)
    → lines_from k (pairs_of xs ys)
    ≡ lines_from k (take i (pairs_of xs ys)) ++ place_line (i + k) (pair (side_at xs i) (side_at ys i)) ++ lines_from (suc (i + k)) (drop (suc i) (pairs_of xs ys))
unfolding pairs_of lines_from
line_at k [] [] i h = absurd (omega arith)
line_at k [] (b ∷ ys) zero h = rw zero-add
line_at k (a ∷ xs) [] zero h = rw zero-add
line_at k (a ∷ xs) (b ∷ ys) zero h = rw zero-add
line_at k [] (b ∷ ys) (suc i) h =
    let ps = pairs_of [] ys in
    behind k i (pair ended (gave b)) (pair (side_at [] i) (side_at ys i)) ps (take i ps) (drop (suc i) ps) (line_at (suc k) [] ys i (omega arith))
line_at k (a ∷ xs) [] (suc i) h =
    let ps = pairs_of xs [] in
    behind k i (pair (gave a) ended) (pair (side_at xs i) (side_at [] i)) ps (take i ps) (drop (suc i) ps) (line_at (suc k) xs [] i (omega arith))
line_at k (a ∷ xs) (b ∷ ys) (suc i) h =
    let ps = pairs_of xs ys in
    behind k i (pair (gave a) (gave b)) (pair (side_at xs i) (side_at ys i)) ps (take i ps) (drop (suc i) ps) (line_at (suc k) xs ys i (omega arith))

some : (lead l r : List ℕ) → beside lead l r ≡ [] → ⊥
unfolding beside
some lead l r e = let n = simp length-append at (ap length e) in omega arith

-- that line is missing exactly where number and carried values are the same, of frames all bytes
pub none_agree : (k : ℕ) (p : Pair) → place_line k p ≡ [] → side_row p.left ≡ side_row p.right
unfolding place_line
none_agree k p e =
    by_test (agrees p) (λ t. same_bytes_lem (side_row p.left) (side_row p.right) t)
    (λ f. absurd (some (leading k) (side_text p.left) (side_text p.right) (simp f at e)))

pub agree_none : (k : ℕ) (p : Pair) → side_row p.left ≡ side_row p.right → place_line k p ≡ []
unfolding place_line
agree_none k p e = simp (bytes_same (side_row p.left) (side_row p.right) e)

-- .. and the tails' line exactly where their bytes are the same
pub none_tails : (s t : List ℕ) → tail_line s t ≡ [] → s ≡ t
unfolding tail_line
none_tails s t e =
    by_test (same_bytes s t) (λ same. same_bytes_lem s t same)
    (λ f. absurd (some tail_word (bare (held_line (length s))) (bare (held_line (length t))) (simp f at e)))

pub tails_none : (s t : List ℕ) → s ≡ t → tail_line s t ≡ []
unfolding tail_line
tails_none s t e = simp (bytes_same s t e)

-- an answer never agrees with a side that has ended; two frames agree exactly where all their bytes are the same
pub ended_differs : (a : Answer) → side_row (gave a) ≡ side_row ended → ⊥
unfolding side_row row
ended_differs (InvalidSync c) e = nil≢cons (sym e)
ended_differs (InvalidPacketLength c) e = nil≢cons (sym e)
ended_differs (InvalidCrc c) e = nil≢cons (sym e)
ended_differs (Frame c) e = nil≢cons (sym e)

pub frames_agree : (c d : List ℕ) → side_row (gave (Frame c)) ≡ side_row (gave (Frame d)) → c ≡ d
unfolding side_row row
frames_agree c d e = cc

pub same_frames : (c d : List ℕ) → c ≡ d → side_row (gave (Frame c)) ≡ side_row (gave (Frame d))
same_frames c d e = ap (λ (x : List ℕ). side_row (gave (Frame x))) e

-- ---- Agree and differ add up to the pairs

pub counted : (ps : List Pair) → agreeing ps + differing ps ≡ length ps
unfolding agreeing differing
counted [] = refl
counted (p ∷ more) = let h = counted more in by_test (agrees p) (λ t. simp t (omega arith)) (λ f. simp f (omega arith))

-- the tails are one more
pub all_counted : (l r : Reading) → agreed l r + differed l r ≡ length (pairs_of l.answers r.answers) + 1
all_counted l r =
    let h = counted (pairs_of l.answers r.answers) in
    by_test (same_bytes l.tail r.tail) (λ t. simp t (omega arith)) (λ f. simp f (omega arith))

-- ---- Equal uploads

equal_pairs : (xs : List Answer) (k : ℕ) → (lines_from k (pairs_of xs xs) ≡ []) × ((agreeing (pairs_of xs xs) ≡ length xs) × (differing (pairs_of xs xs) ≡ 0))
unfolding pairs_of lines_from agreeing differing place_line
equal_pairs [] k = (refl, (refl, refl))
equal_pairs (a ∷ xs) k =
    let h = equal_pairs xs (suc k) in
    let t = same_self (side_row (gave a)) in
    (simp t h.0, (simp t (ap suc h.1.0), simp t h.1.1))

pub equal_uploads : (m : ℕ) (s : List ℕ) → comparison m s s ≡ last_line (length (reading m s).answers + 1) 0
unfolding text_from tail_line
equal_uploads m s =
    let r = reading m s in
    let ps = pairs_of r.answers r.answers in
    let h = equal_pairs r.answers 1 in
    let n : 0 + (agreeing ps + 1) ≡ length r.answers + 1 = omega (arith, h.1.0) in
    let z : 0 + (differing ps + 0) ≡ 0 = omega (arith, h.1.1) in
    simp (same_self r.tail) (ap (λ (x : List ℕ). x ++ last_line (0 + (agreeing ps + 1)) (0 + (differing ps + 0))) h.0 ∙ ap₂ last_line n z)

-- ---- Exchanged uploads

abbrev pub swapped : Pair → Pair
swapped p = pair p.right p.left

pub swapped_pairs : (xs ys : List Answer) → pairs_of ys xs ≡ map swapped (pairs_of xs ys)
unfolding pairs_of
swapped_pairs [] [] = refl
swapped_pairs [] (b ∷ ys) = ap (λ (l : List Pair). pair (gave b) ended ∷ l) (swapped_pairs [] ys)
swapped_pairs (a ∷ xs) [] = ap (λ (l : List Pair). pair ended (gave a) ∷ l) (swapped_pairs xs [])
swapped_pairs (a ∷ xs) (b ∷ ys) = ap (λ (l : List Pair). pair (gave b) (gave a) ∷ l) (swapped_pairs xs ys)

agrees_swapped : (p : Pair) → agrees (swapped p) ≡ agrees p
agrees_swapped p = same_swap (side_row p.right) (side_row p.left)

-- the sides of a line
pub swapped_line : (k : ℕ) (p : Pair)
    → place_line k (swapped p) ≡ (when agrees p then [] else leading k ++ (side_text p.right ++ (bar ++ (side_text p.left ++ line_end))))
unfolding place_line beside
swapped_line k p = simp (agrees_swapped p)

pub swapped_tail : (s t : List ℕ)
    → tail_line t s ≡ (when same_bytes s t then [] else tail_word ++ (bare (held_line (length t)) ++ (bar ++ (bare (held_line (length s)) ++ line_end))))
unfolding tail_line beside
swapped_tail s t = simp (same_swap t s)

-- the counts
swapped_agreeing : (ps : List Pair) → agreeing (map swapped ps) ≡ agreeing ps
unfolding agreeing
swapped_agreeing [] = refl
swapped_agreeing (p ∷ more) = simp (agrees_swapped p, swapped_agreeing more)

swapped_differing : (ps : List Pair) → differing (map swapped ps) ≡ differing ps
unfolding differing
swapped_differing [] = refl
swapped_differing (p ∷ more) = simp (agrees_swapped p, swapped_differing more)

pub swapped_agreed : (l r : Reading) → agreed r l ≡ agreed l r
swapped_agreed l r = simp (swapped_pairs l.answers r.answers, swapped_agreeing (pairs_of l.answers r.answers), same_swap r.tail l.tail)

pub swapped_differed : (l r : Reading) → differed r l ≡ differed l r
swapped_differed l r = simp (swapped_pairs l.answers r.answers, swapped_differing (pairs_of l.answers r.answers), same_swap r.tail l.tail)

-- the text
pub swapped_uploads : (m : ℕ) (left right : List ℕ)
    → (let l = reading m left in let r = reading m right in
    comparison m right left
    ≡ lines_from 1 (map swapped (pairs_of l.answers r.answers)) ++ (tail_line r.tail l.tail ++ last_line (0 + agreed l r) (0 + differed l r)))
unfolding text_from
swapped_uploads m left right =
    let l = reading m left in
    let r = reading m right in
    let ps = pairs_of l.answers r.answers in
    ap (λ (qs : List Pair). lines_from 1 qs ++ (tail_line r.tail l.tail ++ last_line (0 + agreed r l) (0 + differed r l))) (swapped_pairs l.answers r.answers)
    ∙ ap₂ (λ (a : ℕ) (d : ℕ). lines_from 1 (map swapped ps) ++ (tail_line r.tail l.tail ++ last_line (0 + a) (0 + d))) (swapped_agreed l r) (swapped_differed l r)
