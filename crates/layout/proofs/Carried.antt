-- Signed numbers as the machine carries them between a slice and a struct: by their bits.
-- Assumes nothing.
use Prim.Native.Nat.{ℕ}
use lib.Dec.{eqb}
use lib.IntN.{ℤ}
use mir.Syntax.{Width, w8, w16, w32}
use mir.Val.{to_z, of_z}
use Rattle.base.specs.Choice.{when◌then◌else◌}

-- the machine's integers that a field of that many bytes is read into and written from
abbrev pub machine : ℕ → Width
machine w = when eqb w 1 then w8 else when eqb w 2 then w16 else w32

abbrev pub carry : ℕ → ℤ → ℤ
carry w z = to_z (machine w) (of_z (machine w) z)
