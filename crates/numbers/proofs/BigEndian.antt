-- Laws of big-endian numbers, each over the width. Assumes nothing.
use mathlib.Core.Path.{◌≡◌, refl, sym, ap, ◌∙◌}
use mathlib.Core.List.{List, [], ◌∷◌, ◌++◌}
use Prim.Native.Nat.{ℕ, zero, suc, ◌+◌, ◌-◌, ◌*◌, ◌/◌, ◌%◌, ◌^◌, ◌≤◌, ◌<◌}
use native.Mathlib.Nat.{lt_of_lt_of_le, pow-suc, pow-zero, pow-le-pow_right, one-le-pow, mul_assoc, mul_comm, mod-lt, mod-one, mod-eq_of_lt}
use native.Mathlib.Numerals.{add-one}
use native.Mathlib.Omega.{arith}
use lib.Arith.{digits_lt, digits_div, digits_mod, mod-mul}
use lib.Dec.{lit<}
use lib.ListN.{length, get_or, take, length-append, length-take}
use lib.Seq.{take-suc}
use Rattle.base.specs.Parts.{part}
use Rattle.base.proofs.Parts.{bytes_part}
use lib.Pow.{pow-add}
use Rattle.base.specs.Bytes.{Bytes}
use Rattle.numbers.specs.BigEndian.{be_of, bytes_of}

pub 256-pow-pos : (w : ℕ) → 0 < 256 ^ w
256-pow-pos w = one-le-pow w 256 (lit< tt)

pub length_bytes_of : (w n : ℕ) → length (bytes_of w n) ≡ w
unfolding bytes_of
length_bytes_of zero n = refl
length_bytes_of (suc w) n = ap suc (length_bytes_of w n)

pub bytes_tail : (b : ℕ) (bs : List ℕ) → Bytes (b ∷ bs) → Bytes bs
bytes_tail b bs h i = h (suc i)

-- one more byte at the low end
pub be_of_snoc : (bs : List ℕ) (b : ℕ) → be_of (bs ++ (b ∷ [])) ≡ be_of bs * 256 + b
unfolding be_of
be_of_snoc [] b = rw pow-zero (omega arith)
be_of_snoc (a ∷ bs) b =
    rw (length-append bs (b ∷ []), be_of_snoc bs b, add-one, pow-suc, ← mul_assoc) (omega arith)

-- n bytes make a number of n bytes
pub be_of_lt : (bs : List ℕ) → Bytes bs → be_of bs < 256 ^ length bs
unfolding be_of
be_of_lt [] h = rw pow-zero (lit< tt)
be_of_lt (b ∷ bs) h = rw (pow-suc, mul_comm (256 ^ length bs) 256) (digits_lt (h 0) (be_of_lt bs (bytes_tail b bs h)))

-- 256 ^ v by the bytes above and below the lowest w
pub pow_split : (w v : ℕ) → w ≤ v → 256 ^ v ≡ 256 ^ (v - w) * 256 ^ w
pow_split w v h = ap (λ (k : ℕ). 256 ^ k) (omega arith) ∙ pow-add 256 (v - w) w

-- the low bytes of the low bytes
pub mod_pow : (w v n : ℕ) → w ≤ v → n % 256 ^ v % 256 ^ w ≡ n % 256 ^ w
mod_pow w v n h =
    rw (pow_split w v h, mod-mul n (256-pow-pos (v - w)) (256-pow-pos w))
    (digits_mod (n / 256 ^ w % 256 ^ (v - w)) (mod-lt n (256-pow-pos w)))

-- the byte of weight 256 ^ w is that of n's low bytes, where it is among them
byte_low : (w v n : ℕ) → suc w ≤ v → n % 256 ^ v / 256 ^ w % 256 ≡ n / 256 ^ w % 256
byte_low w v n h =
    ap (λ (m : ℕ). m / 256 ^ w % 256)
    (ap (λ (m : ℕ). n % m) (pow_split w v (omega arith)) ∙ mod-mul n (256-pow-pos (v - w)) (256-pow-pos w))
    ∙ ap (λ (m : ℕ). m % 256) (digits_div (n / 256 ^ w % 256 ^ (v - w)) (mod-lt n (256-pow-pos w)))
    ∙ mod_pow 1 (v - w) (n / 256 ^ w) (omega arith)

pub bytes_of_low : (w v n : ℕ) → w ≤ v → bytes_of w (n % 256 ^ v) ≡ bytes_of w n
unfolding bytes_of
bytes_of_low zero v n h = refl
bytes_of_low (suc w) v n h = rw (byte_low w v n h, bytes_of_low w v n (omega arith))

-- THE ROUND TRIP, over the width: the bytes of n are the number that n leaves modulo 256 ^ w ..
pub be_of_bytes_of : (w n : ℕ) → be_of (bytes_of w n) ≡ n % 256 ^ w
unfolding be_of bytes_of
be_of_bytes_of zero n = rw pow-zero (sym (mod-one n))
be_of_bytes_of (suc w) n =
    rw (length_bytes_of w n, be_of_bytes_of w n, pow-suc, mul_comm (256 ^ w) 256)
    (sym (mod-mul n (lit< tt) (256-pow-pos w)))

-- .. and the number of some bytes has those bytes
pub bytes_of_be_of : (bs : List ℕ) → Bytes bs → bytes_of (length bs) (be_of bs) ≡ bs
unfolding be_of bytes_of
bytes_of_be_of [] h = refl
bytes_of_be_of (b ∷ bs) h =
    let w : ℕ = length bs in
    let low : be_of bs < 256 ^ w = be_of_lt bs (bytes_tail b bs h) in
    let head : (b * 256 ^ w + be_of bs) / 256 ^ w % 256 ≡ b =
    ap (λ (m : ℕ). m % 256) (digits_div b low) ∙ mod-eq_of_lt (h 0) in
    let tail : bytes_of w (b * 256 ^ w + be_of bs) ≡ bs =
    sym (bytes_of_low w w (b * 256 ^ w + be_of bs) (omega arith))
    ∙ ap (bytes_of w) (digits_mod b low) ∙ bytes_of_be_of bs (bytes_tail b bs h) in
    rw (head, tail)

-- a part of w bytes makes a number of w bytes, and so does one that lacks some of them
pub be_of_part_lt : (s : List ℕ) (at w : ℕ) → Bytes s → be_of (part s at w) < 256 ^ w
be_of_part_lt s at w b =
    let most : length (part s at w) ≤ w = simp length-take (omega arith) in
    lt_of_lt_of_le (be_of_lt (part s at w) (bytes_part s at w b)) (pow-le-pow_right (lit< tt) most)

-- the first n bytes make a number of as many bytes, and of more
pub be_of_front_lt : (s : List ℕ) (n most : ℕ) → Bytes s → n ≤ most → be_of (take n s) < 256 ^ most
be_of_front_lt s n most b h = lt_of_lt_of_le (be_of_part_lt s 0 n b) (pow-le-pow_right (lit< tt) h)

-- .. and one byte more
pub be_of_more : (s : List ℕ) (i : ℕ) → i < length s → be_of (take (i + 1) s) ≡ be_of (take i s) * 256 + get_or s i 0
be_of_more s i h = rw (add-one, take-suc s i 0 h, be_of_snoc)
