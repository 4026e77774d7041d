-- The laws of what a number leaves: it is linear, zeros in front do not count, and the check byte of a string is what the string leaves, times x^8.
-- Assumes nothing.
use mathlib.Core.Path.{◌≡◌, refl, ap, ap₂, ◌∙◌, sym}
use mathlib.Core.List.{List, [], ◌∷◌, ◌++◌}
use Prim.Native.Nat.{ℕ, zero, suc, ◌+◌, ◌*◌, ◌/◌, ◌%◌, ◌^◌, ◌≤◌, ◌<◌}
use native.Mathlib.Nat.{add-zero, pow-suc, pow-le-pow_right, div-lt_iff_lt-mul, lt_of_lt_of_le}
use native.Mathlib.Decide.{le_ind}
use native.Mathlib.Omega.{arith}
use lib.Arith.{lt-one}
use lib.Dec.{lit<, lit≤}
use lib.Bits.{bit_xor, xor_zero_r}
use lib.ListN.{length, get_or, take}
use lib.Seq.{take-suc, take-length}
use Rattle.base.specs.Bytes.{Bytes}
use Rattle.base.proofs.Linear.{Linear, nothing, down, low, then, plus}
use Rattle.numbers.specs.BigEndian.{be_of}
use Rattle.numbers.proofs.BigEndian.{be_of_snoc, be_of_lt}
use Rattle.crc.specs.Remainder.{shift_bit, shifts, after_byte, remainder_from, remainder}
use Rattle.crc.specs.Word.{residue, word_check}
use Rattle.crc.proofs.Shifts.{shifts_linear}
use Rattle.crc.proofs.Laws.{remainder_snoc}

-- ---- it is linear

pub residue_linear : (n : ℕ) → Linear (residue n)
unfolding residue
residue_linear zero = nothing
residue_linear (suc n) = plus (then (then (down 8) (residue_linear n)) (shifts_linear 8)) (low 8)

pub word_check_linear : Linear word_check
unfolding word_check
word_check_linear = then (residue_linear 8) (shifts_linear 8)

-- ---- zeros in front do not count

byte_less : (n w : ℕ) → w < 256 ^ suc n → w / 256 < 256 ^ n
byte_less n w h = (div-lt_iff_lt-mul (lit< tt)).1 (rw pow-suc at h)

one_more : (n w : ℕ) → w < 256 ^ n → residue (suc n) w ≡ residue n w
unfolding residue shifts shift_bit
one_more zero w h = rw (lt-one h)
one_more (suc n) w h = ap (λ (x : ℕ). bit_xor (shifts 8 x) (w % 256)) (one_more n (w / 256) (byte_less n w h))

residue_wide : (n w : ℕ) → w < 256 ^ n → (m : ℕ) → n ≤ m → residue m w ≡ residue n w
residue_wide n w h =
    le_ind (λ (m : ℕ). residue m w ≡ residue n w) refl
    (λ m l e. one_more m w (lt_of_lt_of_le h (pow-le-pow_right (lit< tt) l)) ∙ e)

-- ---- the check byte of a string

-- one byte behind w
residue_next : (n w b : ℕ) → b < 256 → residue (suc n) (w * 256 + b) ≡ bit_xor (shifts 8 (residue n w)) b
unfolding residue
residue_next n w b h =
    let high : (w * 256 + b) / 256 ≡ w = omega arith in
    let byte : (w * 256 + b) % 256 ≡ b = omega arith in
    ap₂ (λ (x y : ℕ). bit_xor (shifts 8 (residue n x)) y) high byte

-- the first n bytes, by one more each time
of_none : shifts 8 0 ≡ remainder []
unfolding shifts shift_bit remainder remainder_from
of_none = refl

next : (n w b : ℕ) (bs : List ℕ) → b < 256 → shifts 8 (residue n w) ≡ remainder bs → shifts 8 (residue (suc n) (w * 256 + b)) ≡ remainder (bs ++ (b ∷ []))
unfolding after_byte
next n w b bs h e = ap (shifts 8) (residue_next n w b h ∙ ap (λ (x : ℕ). bit_xor x b) e) ∙ sym (remainder_snoc bs b)

of_first : (bs : List ℕ) → Bytes bs → (n : ℕ) → n ≤ length bs → shifts 8 (residue n (be_of (take n bs))) ≡ remainder (take n bs)
unfolding residue
of_first bs h zero l = of_none
of_first bs h (suc n) l =
    let front : List ℕ = take n bs in
    let b : ℕ = get_or bs n 0 in
    let grown : take (suc n) bs ≡ front ++ (b ∷ []) = take-suc bs n 0 l in
    ap (λ (l : List ℕ). shifts 8 (residue (suc n) (be_of l))) grown
    ∙ ap (λ (w : ℕ). shifts 8 (residue (suc n) w)) (be_of_snoc front b)
    ∙ next n (be_of front) b front (h n) (of_first bs h n (omega arith))
    ∙ ap remainder (sym grown)

pub check_of_string : (bs : List ℕ) → Bytes bs → shifts 8 (residue (length bs) (be_of bs)) ≡ remainder bs
check_of_string bs h = rw (take-length bs) at (of_first bs h (length bs) (omega arith))

-- .. of at most eight bytes
pub check_of_word : (bs : List ℕ) → Bytes bs → length bs ≤ 8 → word_check (be_of bs) ≡ remainder bs
unfolding word_check
check_of_word bs h few = ap (shifts 8) (residue_wide (length bs) (be_of bs) (be_of_lt bs h) 8 few) ∙ check_of_string bs h

-- ---- the ends of `check_of`

-- a word times x^8 leaves its check byte, ..
pub times_x8 : (w : ℕ) → w < 2 ^ 56 → residue 8 (w * 256) ≡ word_check w
unfolding word_check
times_x8 w h =
    ap (residue 8) (sym (add-zero (w * 256))) ∙ residue_next 7 w 0 (lit< tt) ∙ xor_zero_r (shifts 8 (residue 7 w))
    ∙ ap (shifts 8) (sym (residue_wide 7 w h 8 (lit≤ tt)))

-- .. and two bytes leave the eight shifts of the upper, and the lower
pub residue_two : (v : ℕ) → v < 2 ^ 16 → residue 8 v ≡ bit_xor (shifts 8 (v / 256 % 256)) (v % 256)
unfolding residue shifts shift_bit
residue_two v h = residue_wide 2 v h 8 (lit≤ tt)
