-- Linear functions of a number's bits, that is with exclusive or for the sum: two that agree at each single bit agree at every number of so
-- many bits. So what has to be computed of one is a test at single bits.
-- Assumes nothing.
use mathlib.Core.Path.{◌≡◌, refl, ap, ap₂, ◌∙◌, sym, subst}
use Prim.Native.Nat.{ℕ, zero, suc, ◌*◌, ◌/◌, ◌%◌, ◌^◌, ◌<◌, zero-le}
use native.Mathlib.Nat.{mod-lt, sub-zero, zero-mul, one-mul}
use native.Mathlib.Omega.{arith}
use lib.Arith.{lt-one}
use lib.Dec.{T, eqb, eqb→eq}
use lib.Pow.{pow_pos, shr_lt, split}
use lib.Bits.{bit_xor, xor_self, xor_shr, xor_mod, xor_shifted}
use Rattle.base.proofs.Every.{every, within}
use Rattle.base.proofs.Xor.{xor_swap, xor_shl}

pub record Linear (f : ℕ → ℕ) : Type 0 where
  pub law : (a b : ℕ) → f (bit_xor a b) ≡ bit_xor (f a) (f b)

-- ---- what is linear

pub nothing : Linear (λ w. 0)
nothing = record { law = λ a b. refl }

pub itself : Linear (λ w. w)
itself = record { law = λ a b. refl }

-- moved up or down by k bits, and what the k low bits are
pub up : (k : ℕ) → Linear (λ w. w * 2 ^ k)
up k = record { law = λ a b. xor_shl a b k }

pub down : (k : ℕ) → Linear (λ w. w / 2 ^ k)
down k = record { law = λ a b. xor_shr a b k }

pub low : (k : ℕ) → Linear (λ w. w % 2 ^ k)
low k = record { law = λ a b. xor_mod a b k }

-- one after the other, and the sum of two
pub then : {f g : ℕ → ℕ} → Linear f → Linear g → Linear (λ w. g (f w))
then {f} {g} lf lg = record { law = λ a b. ap g (lf.law a b) ∙ lg.law (f a) (f b) }

pub plus : {f g : ℕ → ℕ} → Linear f → Linear g → Linear (λ w. bit_xor (f w) (g w))
plus {f} {g} lf lg = record { law = λ a b. ap₂ bit_xor (lf.law a b) (lg.law a b) ∙ xor_swap (f a) (f b) (g a) (g b) }

-- the code's `<<` of a word, of which 64 bits are kept
abbrev pub shl : ℕ → ℕ → ℕ
shl k w = w * 2 ^ k % 2 ^ 64

pub shl_linear : (k : ℕ) → Linear (shl k)
shl_linear k = then (up k) (low 64)

-- ---- a number in two parts

pub parts : {f : ℕ → ℕ} → Linear f → (k w : ℕ) → bit_xor (f (w / 2 ^ k * 2 ^ k)) (f (w % 2 ^ k)) ≡ f w
parts {f} lf k w =
    sym (lf.law (w / 2 ^ k * 2 ^ k) (w % 2 ^ k))
    ∙ ap f (xor_shifted (w / 2 ^ k) k (w % 2 ^ k) (mod-lt w (pow_pos k)) ∙ split w k)

-- ---- from single bits to every number

pub at_zero : {f : ℕ → ℕ} → Linear f → f 0 ≡ 0
at_zero {f} lf = lf.law 0 0 ∙ xor_self (f 0)

module _ {f g : ℕ → ℕ} (lf : Linear f) (lg : Linear g) where
  at_bit : (n t : ℕ) → t < 2 → f (2 ^ n) ≡ g (2 ^ n) → f (t * 2 ^ n) ≡ g (t * 2 ^ n)
  at_bit n zero h e = rw zero-mul (at_zero lf ∙ sym (at_zero lg))
  at_bit n (suc zero) h e = rw one-mul e
  at_bit n (suc (suc t)) h e = absurd (omega arith)

  from_bits : (n : ℕ) → ((i : ℕ) → i < n → f (2 ^ i) ≡ g (2 ^ i)) → (w : ℕ) → w < 2 ^ n → f w ≡ g w
  from_bits zero e w h = ap f (lt-one h) ∙ at_zero lf ∙ sym (at_zero lg) ∙ ap g (sym (lt-one h))
  from_bits (suc n) e w h =
      let top : w / 2 ^ n < 2 = shr_lt 1 n (subst (λ (m : ℕ). w < 2 ^ m) (omega arith) h) in
      sym (parts lf n w)
      ∙ ap₂ bit_xor (at_bit n (w / 2 ^ n) top (e n (omega arith))) (from_bits n (λ i l. e i (omega arith)) (w % 2 ^ n) (mod-lt w (pow_pos n)))
      ∙ parts lg n w

  -- the law to cite: its test is computed
  pub agree : (n : ℕ) → T (every (λ i. eqb (f (2 ^ i)) (g (2 ^ i))) 0 n) → (w : ℕ) → w < 2 ^ n → f w ≡ g w
  agree n t = from_bits n (λ i l. eqb→eq (f (2 ^ i)) (g (2 ^ i)) (within (λ j. eqb (f (2 ^ j)) (g (2 ^ j))) 0 n (rw sub-zero t) i zero-le l))
