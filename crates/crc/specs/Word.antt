-- A number as a polynomial: bit k is the coefficient of x^k, so exclusive or is the sum, and a bit further up is times x. What it leaves over the
-- polynomial of the check byte, and the check byte of its bytes. Only private functions promise these; what the public ones promise is `remainder`.
-- Assumes nothing.
use Rattle.std.specs.Prelude.{ℕ, zero, suc, ◌/◌, ◌%◌}
use Rattle.std.specs.Int.Bits.{bit_xor}
use Rattle.crc.specs.Remainder.{shifts}

-- what the n low bytes of w leave: what those before the last leave, times x^8, and the last
unfoldable pub residue : ℕ → ℕ → ℕ
residue zero w = 0
residue (suc n) w = bit_xor (shifts 8 (residue n (w / 256))) (w % 256)

-- the check byte of a word's eight bytes, the highest first: what they leave, times x^8. Zeros in front do not count, so it is that of fewer bytes too
unfoldable pub word_check : ℕ → ℕ
word_check w = shifts 8 (residue 8 w)
