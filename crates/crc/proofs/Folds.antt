-- The law of a fold (src/word.rt), over k, i and j.
-- Assumes nothing.
use mathlib.Core.Path.{◌≡◌}
use Prim.Native.Nat.{ℕ, ◌+◌, ◌*◌, ◌/◌, ◌%◌, ◌^◌, ◌≤◌, ◌<◌}
use native.Mathlib.Nat.{mod-lt, mod-le, lt_of_le_of_lt, lt_of_lt_of_le}
use native.Mathlib.Omega.{arith}
use lib.Dec.{T, eqb}
use lib.Pow.{pow_pos, pow_mono, shl_lt, shr_lt}
use lib.Bits.{bit_xor, xor_lt}
use Rattle.base.proofs.Every.{every}
use Rattle.base.proofs.Linear.{Linear, down, low, then, plus, shl, shl_linear, agree}
use Rattle.crc.specs.Word.{residue}
use Rattle.crc.proofs.Residue.{residue_linear}

abbrev pub folded : ℕ → ℕ → ℕ → ℕ → ℕ
folded k i j w = bit_xor (bit_xor (bit_xor (w / 2 ^ k) (shl i (w / 2 ^ k))) (shl j (w / 2 ^ k))) (w % 2 ^ k)

folded_linear : (k i j : ℕ) → Linear (folded k i j)
folded_linear k i j = plus (plus (plus (down k) (then (down k) (shl_linear i))) (then (down k) (shl_linear j))) (low k)

-- a word of q + k bits, of which q are moved: it leaves what it left, as is tried at each bit, and has q + j bits
module _ (k i j q : ℕ) (order : i ≤ j) (room : k ≤ q + j) where
  shl_small : (h a : ℕ) → h ≤ j → a < 2 ^ q → shl h a < 2 ^ (q + j)
  shl_small h a l s = lt_of_le_of_lt (mod-le (a * 2 ^ h) (2 ^ 64)) (lt_of_lt_of_le (shl_lt q h s) (pow_mono (omega arith)))

  folded_small : (w : ℕ) → w < 2 ^ (q + k) → folded k i j w < 2 ^ (q + j)
  folded_small w h =
      let a : ℕ = w / 2 ^ k in
      let high : a < 2 ^ q = shr_lt q k h in
      let m : ℕ = q + j in
      xor_lt m (bit_xor (bit_xor a (shl i a)) (shl j a)) (w % 2 ^ k)
      (xor_lt m (bit_xor a (shl i a)) (shl j a)
      (xor_lt m a (shl i a) (lt_of_lt_of_le high (pow_mono (omega arith))) (shl_small i a order high))
      (shl_small j a (omega arith) high))
      (lt_of_lt_of_le (mod-lt w (pow_pos k)) (pow_mono room))

  pub fold : T (every (λ b. eqb (residue 8 (folded k i j (2 ^ b))) (residue 8 (2 ^ b))) 0 (q + k))
      → (w : ℕ) → w < 2 ^ (q + k) → (residue 8 (folded k i j w) ≡ residue 8 w) × (folded k i j w < 2 ^ (q + j))
  fold t w h = (agree (then (folded_linear k i j) (residue_linear 8)) (residue_linear 8) (q + k) t w h, folded_small w h)
