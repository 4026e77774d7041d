-- Signed numbers in two's complement, of any width in bytes.
-- Assumes nothing.
use Rattle.std.specs.Prelude.{ℕ, suc, ◌-◌, ◌/◌, ◌%◌, ◌^◌, ◌<◌, ltb, ℤ, pos, negsuc}
use Rattle.std.specs.Int.Signed.{mag}
use Rattle.base.specs.Choice.{when◌then◌else◌}

-- the signed number that n stands for: n itself in the lower half, n less 256 ^ width in the upper
unfoldable pub signed_of : ℕ → ℕ → ℤ
signed_of width n = when ltb n (256 ^ width / 2) then pos n else negsuc (256 ^ width - suc n)

-- what z leaves modulo 256 ^ width: its low 8 · width bits. (`negsuc n` is −(n + 1).)
unfoldable pub twos_of : ℕ → ℤ → ℕ
twos_of width (pos n) = n % 256 ^ width
twos_of width (negsuc n) = 256 ^ width - suc (n % 256 ^ width)

-- z is in the range of `width` bytes: −256 ^ width / 2 up to, not including, 256 ^ width / 2. (`mag` is n for n and for −(n + 1).)
abbrev pub InRange : ℕ → ℤ → Type 0
InRange width z = mag z < 256 ^ width / 2
