-- The laws of gathering: a string's number from its parts, and the check byte as eight bytes more come in.
-- Assumes nothing.
use mathlib.Core.Path.{◌≡◌, refl, ap, ap₂, ◌∙◌, sym}
use mathlib.Core.List.{List, [], ◌∷◌, ◌++◌}
use Prim.Native.Nat.{ℕ, zero, suc, ◌+◌, ◌-◌, ◌*◌, ◌/◌, ◌^◌, ◌≤◌, ◌<◌}
use native.Mathlib.Nat.{lt_of_lt_of_le, pow-le-pow_right, zero-mul, zero-add, add-zero, pow-suc, mul_assoc, add-mul, add_assoc}
use native.Mathlib.Omega.{arith}
use lib.Arith.{digits_div}
use lib.Dec.{lit<}
use lib.Pow.{pow-add}
use lib.Bits.{bit_xor}
use lib.ListN.{length, get_or, take, drop, length-append, length-drop, take-append-drop}
use lib.Seq.{take-add, take-take, drop-drop, length-take-le}
use Rattle.base.specs.Bytes.{Bytes}
use Rattle.base.specs.Parts.{part}
use Rattle.base.proofs.Parts.{length_part, part_snoc, bytes_part, bytes_drop}
use Rattle.numbers.specs.BigEndian.{be_of}
use Rattle.numbers.proofs.BigEndian.{be_of_snoc, be_of_lt, be_of_part_lt}
use Rattle.crc.specs.Remainder.{shifts, remainder}
use Rattle.crc.specs.Word.{word_check}
use Rattle.crc.proofs.Laws.{remainder_apart}
use Rattle.crc.proofs.Residue.{word_check_linear, check_of_word}

-- ---- a number from its parts

module _ (x p a q c : ℕ) where
  regroup : x * (p * q) + (a * q + c) ≡ (x * p + a) * q + c
  regroup = rw (add-mul, mul_assoc, add_assoc)

be_of_append : (xs ys : List ℕ) → be_of (xs ++ ys) ≡ be_of xs * 256 ^ length ys + be_of ys
unfolding be_of
be_of_append [] ys = sym (rw (zero-mul, zero-add))
be_of_append (x ∷ xs) ys =
    rw (length-append xs ys, pow-add 256 (length xs) (length ys), be_of_append xs ys)
    (regroup x (256 ^ length xs) (be_of xs) (256 ^ length ys) (be_of ys))

-- one byte more behind those from place i on, ..
behind : (s : List ℕ) (i n : ℕ) → i + n < length s → be_of (part s i (n + 1)) ≡ be_of (part s i n) * 256 + get_or s (i + n) 0
behind s i n h = ap be_of (part_snoc s i n h) ∙ be_of_snoc (part s i n) (get_or s (i + n) 0)

pub first_more : (s : List ℕ) (n : ℕ) → n < length s → be_of (take (n + 1) s) ≡ be_of (take n s) * 256 + get_or s n 0
first_more s n h = behind s 0 n (omega arith) ∙ ap (λ (k : ℕ). be_of (take n s) * 256 + get_or s k 0) (zero-add n)

pub first_seven : (s : List ℕ) (n : ℕ) → Bytes s → n < 8 → be_of (take n s) < 2 ^ 56
first_seven s n h l = lt_of_lt_of_le (be_of_part_lt s 0 n h) (pow-le-pow_right (lit< tt) {i = n} {j = 7} (omega arith))

-- .. four of them, ..
pub be_of_four : (s : List ℕ) (i : ℕ) → i + 4 ≤ length s
    → be_of (part s i 4) ≡ ((get_or s i 0 * 256 + get_or s (i + 1) 0) * 256 + get_or s (i + 2) 0) * 256 + get_or s (i + 3) 0
unfolding be_of
be_of_four s i h =
    let one : be_of (part s i 1) ≡ 0 * 256 + get_or s i 0 = behind s i 0 (omega arith) ∙ ap (λ (k : ℕ). 0 * 256 + get_or s k 0) (add-zero i) in
    omega (arith, behind s i 3 (omega arith), behind s i 2 (omega arith), behind s i 1 (omega arith))

-- .. and eight, which are four and four more
pub be_of_eight : (s : List ℕ) (i : ℕ) → i + 8 ≤ length s → be_of (part s i 8) ≡ be_of (part s i 4) * 2 ^ 32 + be_of (part s (i + 4) 4)
be_of_eight s i h =
    ap be_of (take-add 4 4 (drop i s) ∙ ap (λ (l : List ℕ). part s i 4 ++ take 4 l) (drop-drop 4 i s))
    ∙ be_of_append (part s i 4) (part s (i + 4) 4)
    ∙ ap (λ (k : ℕ). be_of (part s i 4) * 256 ^ k + be_of (part s (i + 4) 4)) (length_part s (i + 4) 4 (omega arith))

256-pow : (k : ℕ) → 256 ^ k ≡ 2 ^ (k * 8)
256-pow zero = refl
256-pow (suc k) = pow-suc 256 k ∙ ap (λ (m : ℕ). m * 256) (256-pow k) ∙ sym (pow-add 2 (k * 8) 8) ∙ ap (λ (m : ℕ). 2 ^ m) (omega arith)

-- the first i of eight bytes are the upper end of them
upper_end : (bs : List ℕ) → Bytes bs → length bs ≡ 8 → (i : ℕ) → i ≤ 8 → be_of bs / 2 ^ ((8 - i) * 8) ≡ be_of (take i bs)
upper_end bs h e i l =
    let rest : length (drop i bs) ≡ 8 - i = length-drop i bs ∙ ap (λ (n : ℕ). n - i) e in
    let size : 256 ^ length (drop i bs) ≡ 2 ^ ((8 - i) * 8) = 256-pow (length (drop i bs)) ∙ ap (λ (k : ℕ). 2 ^ (k * 8)) rest in
    ap (λ (m : ℕ). be_of bs / m) (sym size)
    ∙ ap (λ (w : ℕ). w / 256 ^ length (drop i bs)) (ap be_of (sym (take-append-drop i bs)) ∙ be_of_append (take i bs) (drop i bs))
    ∙ digits_div (be_of (take i bs)) (be_of_lt (drop i bs) (bytes_drop i bs h))

-- ---- the check byte of what was gathered

pub check_of_first : (s : List ℕ) (n : ℕ) → Bytes s → n ≤ length s → n ≤ 8 → word_check (be_of (take n s)) ≡ remainder (take n s)
check_of_first s n h l few = check_of_word (take n s) (bytes_part s 0 n h) (rw (length-take-le n s l) few)

-- .. the upper end of the first eight
pub check_of_upper_end : (s : List ℕ) (i : ℕ) → Bytes s → i ≤ 8 → 8 ≤ length s
    → word_check (be_of (part s 0 8) / 2 ^ ((8 - i) * 8)) ≡ remainder (take i s)
check_of_upper_end s i h l long =
    ap word_check (upper_end (take 8 s) (bytes_part s 0 8 h) (length-take-le 8 s long) i l ∙ ap be_of (take-take i 8 s l))
    ∙ check_of_first s i h (omega arith) l

-- eight bytes more
pub check_of_eight : (s : List ℕ) (i over word : ℕ) → Bytes s → i + 8 ≤ length s
    → word_check over ≡ shifts 64 (remainder (take i s)) → word ≡ be_of (part s i 8) → word_check (bit_xor over word) ≡ remainder (take (i + 8) s)
check_of_eight s i over word h l e f =
    let long : length (part s i 8) ≡ 8 = length_part s i 8 l in
    word_check_linear.law over word
    ∙ ap₂ bit_xor e (ap word_check f ∙ check_of_word (part s i 8) (bytes_part s i 8 h) (omega arith))
    ∙ sym
    (ap remainder (take-add i 8 s) ∙ remainder_apart (take i s) (part s i 8)
    ∙ ap (λ (n : ℕ). bit_xor (shifts (n * 8) (remainder (take i s))) (remainder (part s i 8))) long)
