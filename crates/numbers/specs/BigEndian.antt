-- Numbers of any width, highest byte first.
-- Assumes nothing.
use Rattle.std.specs.Prelude.{ℕ, zero, suc, ◌+◌, ◌*◌, ◌/◌, ◌%◌, ◌^◌, List, [], ◌∷◌, length}

-- the number whose bytes these are
unfoldable pub be_of : List ℕ → ℕ
be_of [] = 0
be_of (b ∷ bs) = b * 256 ^ length bs + be_of bs

-- the low `width` bytes of n
unfoldable pub bytes_of : ℕ → ℕ → List ℕ
bytes_of zero n = []
bytes_of (suc width) n = n / 256 ^ width % 256 ∷ bytes_of width n
