-- What ties the two programs: the text of where, with the number that begins each line and its space taken away, is the text of list, byte for byte.
-- Assumes nothing.
use mathlib.Core.Path.{◌≡◌, refl, sym, ap, ◌∙◌}
use mathlib.Core.Bool.{Bool, true, false, not, ◌&&◌, and-eq-true_iff}
use mathlib.Core.List.{List, [], ◌∷◌, ◌++◌, append_assoc, append-nil}
use Prim.Native.Nat.{ℕ, zero, suc, ◌+◌, ◌-◌, ◌/◌, ◌%◌, ◌≤◌}
use native.Mathlib.Omega.{arith}
use borrow.Author.Tests.{ne_eqb, leb-true}
use lib.Dec.{ltb, leb}
use lib.ListN.{length, get_or}
use Rattle.std.specs.Prelude.{None, Some}
use Rattle.base.proofs.Tests.{by_test}
use Rattle.reading.specs.Answer.{Answer, InvalidSync, InvalidPacketLength, InvalidCrc, Frame, drops, calculated, carried}
use Rattle.reading.specs.Reading.{reading}
use Rattle.reading.specs.Positions.{behind, numbered}
use Rattle.lines.specs.Digits.{hex_digit, decimal_within, decimal}
use Rattle.lines.specs.Lines.{frame_word, sync_word, length_word, crc_word, held_word, spaced_hex, spaced_decimal, leading, line_end, frame_line, byte_line, crc_line, held_line, line, lines_of}
use Rattle.listing.specs.Numbering.{numbered_lines}
use Rattle.listing.specs.Whole.{whole_listing, whole_where, whole_text, shortened, unnumbered}

-- ---- The texts of both programs are those of the numbering

pub list_text : (m : ℕ) (stream : List ℕ) → whole_text None m stream ≡ whole_listing m stream
list_text m stream = refl

pub where_text : (m : ℕ) (stream : List ℕ) → whole_text (Some 0) m stream ≡ whole_where m stream
where_text m stream = refl

-- ---- Bytes that are not below a limit: digits are no spaces, and no byte of a line but the last is a line's end

abbrev all_above : List ℕ → Bool
all_above [] = true
all_above (b ∷ more) = leb 32 b && all_above more

data Over (least : ℕ) : List ℕ → Type 0 where
  none : Over least []
  one : (b : ℕ) {more : List ℕ} → least ≤ b → Over least more → Over least (b ∷ more)

over_append : {least : ℕ} {xs ys : List ℕ} → Over least xs → Over least ys → Over least (xs ++ ys)
over_append none q = q
over_append (one b h p) q = one b h (over_append p q)

over_decimal : (most n : ℕ) → Over 48 (decimal_within most n)
unfolding decimal_within
over_decimal zero n = none
over_decimal (suc most) n =
    by_test (ltb n 10) (λ t. simp t (one (48 + n) (omega arith) none))
    (λ t. simp t (over_append (over_decimal most (n / 10)) (one (48 + n % 10) (omega arith) none)))

over_less : {least fewer : ℕ} {xs : List ℕ} → fewer ≤ least → Over least xs → Over fewer xs
over_less h none = none
over_less h (one b p q) = one b (omega arith) (over_less h q)

over_digit : (d : ℕ) → 32 ≤ hex_digit d
unfolding hex_digit
over_digit d = by_test (ltb d 10) (λ t. simp t (omega arith)) (λ t. simp t (omega arith))

over_hex : (b : ℕ) → Over 32 (spaced_hex b)
over_hex b =
    one 32 (omega arith) (one (hex_digit (b / 16 % 16)) (over_digit (b / 16 % 16)) (one (hex_digit (b % 16)) (over_digit (b % 16)) none))

over_number : (n : ℕ) → Over 32 (spaced_decimal n)
over_number n = one 32 (omega arith) (over_less (omega arith) (over_decimal (suc n) n))

-- ---- A number that begins a line is dropped, and the line is kept

drops_number : {ds : List ℕ} (xs : List ℕ) → Over 48 ds → shortened false (ds ++ 32 ∷ xs) ≡ shortened true xs
unfolding shortened
drops_number xs none = refl
drops_number xs (one b {more} h over) =
    ap (λ (t : Bool). shortened t (more ++ 32 ∷ xs)) (ne_eqb b 32 (λ e. omega arith)) ∙ drops_number xs over

drops_leading : (n : ℕ) (xs : List ℕ) → shortened false (leading n ++ xs) ≡ shortened true xs
drops_leading n xs = ap (shortened false) (append_assoc (decimal n) (32 ∷ []) xs) ∙ drops_number xs (over_decimal (suc n) n)

-- a line is bytes that are no line's end, and then one
data Line : List ℕ → Type 0 where
  ends : {body : List ℕ} → Over 32 body → Line (body ++ line_end)

keeps_body : {body : List ℕ} (xs : List ℕ) → Over 32 body → shortened true (body ++ 10 ∷ xs) ≡ body ++ 10 ∷ shortened false xs
unfolding shortened
keeps_body xs none = refl
keeps_body xs (one b {more} h over) =
    ap (λ (t : Bool). b ∷ shortened (not t) (more ++ 10 ∷ xs)) (ne_eqb b 10 (λ e. omega arith)) ∙ ap (◌∷◌ b) (keeps_body xs over)

keeps_line : {l : List ℕ} (xs : List ℕ) → Line l → shortened true (l ++ xs) ≡ l ++ shortened false xs
keeps_line xs (ends {body} over) =
    ap (shortened true) (append_assoc body line_end xs) ∙ keeps_body xs over ∙ sym (append_assoc body line_end (shortened false xs))

-- ---- Every line is one

over_word : (word : List ℕ) → all_above word ≡ true → Over 32 word
over_word [] e = none
over_word (b ∷ more) e = let both = (and-eq-true_iff (leb 32 b) (all_above more)).0 e in one b (leb-true 32 b both.0) (over_word more both.1)

frame_is_line : (a k n : ℕ) → Line (frame_line a k n)
unfolding frame_line
frame_is_line a k n = ends (over_append (over_append (over_append (over_word frame_word refl) (over_hex a)) (over_hex k)) (over_number n))

byte_is_line : (word : List ℕ) (b : ℕ) → all_above word ≡ true → Line (byte_line word b)
unfolding byte_line
byte_is_line word b e = ends (over_append (over_word word e) (over_hex b))

crc_is_line : (a b : ℕ) → Line (crc_line a b)
unfolding crc_line
crc_is_line a b = ends (over_append (over_append (over_word crc_word refl) (over_hex a)) (over_hex b))

held_is_line : (n : ℕ) → Line (held_line n)
unfolding held_line
held_is_line n = ends (over_append (over_word held_word refl) (over_number n))

is_line : (a : Answer) → Line (line a)
unfolding line
is_line (Frame c) = frame_is_line (get_or c 0 0) (get_or c 2 0) (length c - 4)
is_line (InvalidSync c) = byte_is_line sync_word (get_or c 0 0) refl
is_line (InvalidPacketLength c) = byte_is_line length_word (get_or c 1 0) refl
is_line (InvalidCrc c) = crc_is_line (calculated c) (carried c)

-- ---- So of the whole text

lines_unnumbered : (p : ℕ) (answers : List Answer) (xs : List ℕ) → unnumbered (numbered_lines (numbered p answers) ++ xs) ≡ lines_of answers ++ unnumbered xs
unfolding numbered_lines lines_of
lines_unnumbered p [] xs = refl
lines_unnumbered p (a ∷ more) xs =
    let rest = numbered_lines (numbered (p + drops a) more) in
    ap unnumbered (append_assoc (leading p ++ line a) rest xs ∙ append_assoc (leading p) (line a) (rest ++ xs))
    ∙ drops_leading p (line a ++ (rest ++ xs))
    ∙ keeps_line (rest ++ xs) (is_line a)
    ∙ ap (λ (l : List ℕ). line a ++ l) (lines_unnumbered (p + drops a) more xs)
    ∙ sym (append_assoc (line a) (lines_of more) (unnumbered xs))

last_unnumbered : (p held : ℕ) → unnumbered (leading p ++ held_line held) ≡ held_line held
unfolding shortened
last_unnumbered p held =
    drops_leading p (held_line held)
    ∙ ap (shortened true) (sym (append-nil (held_line held)))
    ∙ keeps_line [] (held_is_line held)
    ∙ append-nil (held_line held)

pub where_unnumbered : (m : ℕ) (stream : List ℕ) → unnumbered (whole_where m stream) ≡ whole_listing m stream
where_unnumbered m stream =
    let r = reading m stream in
    lines_unnumbered 0 r.answers (leading (behind 0 r.answers) ++ held_line (length r.tail))
    ∙ ap (λ (l : List ℕ). lines_of r.answers ++ l) (last_unnumbered (behind 0 r.answers) (length r.tail))
