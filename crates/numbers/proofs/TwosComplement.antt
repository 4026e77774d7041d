-- Laws of two's complement, each over the width. Assumes nothing.
use mathlib.Core.Path.{◌≡◌, sym, ap, ◌∙◌}
use mathlib.Core.List.{List}
use Prim.Native.Nat.{ℕ, zero, suc, ◌+◌, ◌-◌, ◌*◌, ◌/◌, ◌%◌, ◌^◌, ◌≤◌, ◌<◌}
use native.Mathlib.Nat.{pow-suc, mod-lt, mod-eq_of_lt, div-add-mod', div-lt_iff_lt-mul, add-mul, one-mul}
use native.Mathlib.Omega.{arith}
use lib.Arith.{digits_mod, comp_comp}
use lib.IntN.{ℤ, pos, negsuc}
use mathlib.Core.Logic.{⊎_elim}
use borrow.Author.Tests.{lt-ltb, le-ltb}
use Rattle.base.specs.Bytes.{Bytes}
use Rattle.numbers.specs.BigEndian.{be_of, bytes_of}
use Rattle.base.specs.Parts.{part}
use Rattle.numbers.specs.TwosComplement.{signed_of, twos_of, InRange}
use Rattle.numbers.proofs.BigEndian.{256-pow-pos, pow_split, mod_pow, bytes_of_low}
use Rattle.base.proofs.Tests.{below}
use Rattle.numbers.proofs.BigEndian.{be_of_part_lt}

-- the halves of a width's numbers
pub halves : (w : ℕ) → 0 < w → 256 ^ w ≡ 256 ^ w / 2 * 2
halves zero h = absurd (omega arith)
halves (suc k) h = rw pow-suc (omega arith)

pub signed_of_low : (w n : ℕ) → n < 256 ^ w / 2 → signed_of w n ≡ pos n
unfolding signed_of
signed_of_low w n h = simp (lt-ltb _ _ h)

pub signed_of_high : (w n : ℕ) → 256 ^ w / 2 ≤ n → signed_of w n ≡ negsuc (256 ^ w - suc n)
unfolding signed_of
signed_of_high w n h = simp (le-ltb _ _ h)

-- what holds of both readings holds of the signed number
signed_of_cases :
    (P : ℤ → Type 0) (w n : ℕ) → (n < 256 ^ w / 2 → P (pos n)) → (256 ^ w / 2 ≤ n → P (negsuc (256 ^ w - suc n)))
    → P (signed_of w n)
signed_of_cases P w n low high =
    ⊎_elim (λ h. rw (signed_of_low w n h) (low h)) (λ h. rw (signed_of_high w n h) (high h)) (below n (256 ^ w / 2))

pub twos_of_pos : (w n : ℕ) → n < 256 ^ w → twos_of w (pos n) ≡ n
unfolding twos_of
twos_of_pos w n h = mod-eq_of_lt h

-- −(n + 1) is 256 ^ w less n + 1
negative : (w n : ℕ) → n < 256 ^ w → twos_of w (negsuc n) ≡ 256 ^ w - suc n
unfolding twos_of
negative w n h = rw (mod-eq_of_lt h)

pub twos_of_lt : (w : ℕ) (z : ℤ) → twos_of w z < 256 ^ w
unfolding twos_of
twos_of_lt w (pos n) = mod-lt n (256-pow-pos w)
twos_of_lt w (negsuc n) = omega (arith, 256-pow-pos w)

-- THE ROUND TRIP, over the width: the bits of a number in range stand for it ..
pub signed_of_twos_of : (w : ℕ) (z : ℤ) → 0 < w → InRange w z → signed_of w (twos_of w z) ≡ z
signed_of_twos_of w (pos n) h r = rw (twos_of_pos w n (omega (arith, halves w h))) (signed_of_low w n r)
signed_of_twos_of w (negsuc n) h r =
    let full = halves w h in
    rw (negative w n (omega arith), signed_of_high w (256 ^ w - suc n) (omega arith)) (ap negsuc (comp_comp (omega arith)))

-- .. and bits of a width are those of the number that they stand for, ..
pub twos_of_signed_of : (w n : ℕ) → n < 256 ^ w → twos_of w (signed_of w n) ≡ n
twos_of_signed_of w n h =
    signed_of_cases (λ z. twos_of w z ≡ n) w n
    (λ _. twos_of_pos w n h)
    (λ _. negative w (256 ^ w - suc n) (omega arith) ∙ comp_comp h)

-- .. which is in range
pub signed_of_range : (w n : ℕ) → 0 < w → n < 256 ^ w → InRange w (signed_of w n)
signed_of_range w n p h =
    signed_of_cases (λ z. InRange w z) w n (λ low. low) (λ high. omega (arith, halves w p))

-- the signed number of w bytes is in range
pub signed_part_range : (s : List ℕ) (at w : ℕ) → 0 < w → Bytes s → InRange w (signed_of w (be_of (part s at w)))
signed_part_range s at w p b = signed_of_range w (be_of (part s at w)) p (be_of_part_lt s at w b)

-- the complement of m, in a multiple of c, by its lowest digit to the base c
comp_mod : (M c m : ℕ) → 0 < c → m < M * c → (M * c - suc m) % c ≡ c - suc (m % c)
comp_mod M c m p h =
    let q : ℕ = m / c in
    let k : ℕ = M - suc q in
    let q_below : q < M = (div-lt_iff_lt-mul p).1 h in
    let low : m % c < c = mod-lt m p in
    let digits : M * c ≡ q * c + c + k * c =
    ap (λ (x : ℕ). x * c) (omega arith) ∙ add-mul (q + 1) k c ∙ ap (λ (x : ℕ). x + k * c) (add-mul q 1 c ∙ ap (λ (x : ℕ). q * c + x) (one-mul c)) in
    ap (λ (x : ℕ). x % c) (omega (arith, digits, div-add-mod' m c)) ∙ digits_mod k {r = c - suc (m % c)} (omega arith)

-- the low w bytes of the bits at a larger width are the bits at w
twos_of_low : (w v : ℕ) (z : ℤ) → w ≤ v → twos_of v z % 256 ^ w ≡ twos_of w z
unfolding twos_of
twos_of_low w v (pos n) h = mod_pow w v n h
twos_of_low w v (negsuc n) h =
    ap (λ (x : ℕ). (x - suc (n % 256 ^ v)) % 256 ^ w) (pow_split w v h)
    ∙ comp_mod (256 ^ (v - w)) (256 ^ w) (n % 256 ^ v) (256-pow-pos w) (rw (← pow_split w v h) (mod-lt n (256-pow-pos v)))
    ∙ ap (λ (x : ℕ). 256 ^ w - suc x) (mod_pow w v n h)

pub bytes_of_twos_of : (w v : ℕ) (z : ℤ) → w ≤ v → bytes_of w (twos_of v z) ≡ bytes_of w (twos_of w z)
bytes_of_twos_of w v z h = sym (bytes_of_low w w (twos_of v z) (omega arith)) ∙ ap (bytes_of w) (twos_of_low w v z h)

-- a natural number's low bytes
pub bytes_of_natural : (w n : ℕ) → bytes_of w (twos_of w (pos n)) ≡ bytes_of w n
unfolding twos_of
bytes_of_natural w n = bytes_of_low w w n (omega arith)
