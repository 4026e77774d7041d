-- What the raw altitudes of two records mean, and how decimetres are packed (RULES 11).
-- Assumes nothing.
use Rattle.std.specs.Prelude.{ℕ, ◌+◌, ◌-◌, ◌*◌, ◌/◌, ltb, ℤ, pos, neg_ℤ, nat_abs, ◌+ℤ◌, ◌-ℤ◌}
use Rattle.std.specs.Int.Signed.{lt_z, quot_z}
use Rattle.base.specs.Choice.{when◌then◌else◌}

-- GPS: raw is metres with 1000 added
abbrev pub metres_of : ℕ → ℤ
metres_of raw = pos raw -ℤ pos 1000

-- barometric: with the top bit clear, decimetres with 10000 added; with the top bit set, the other 15 bits are whole metres
unfoldable pub decimetres_of : ℕ → ℤ
decimetres_of raw = when ltb raw 0x8000 then pos raw -ℤ pos 10000 else pos ((raw - 0x8000) * 10)

-- decimetres packed: below 22768 with 10000 added, from there on as the nearest metre with the top bit set; outside −10000 to 327655 the nearest
-- end, 0 or 0xFFFE
unfoldable pub pack_of : ℤ → ℕ
pack_of d =
    when lt_z d (neg_ℤ (pos 10000)) then 0
    else when lt_z (pos 327655) d then 0xFFFE
    else when lt_z d (pos 22768) then nat_abs (d +ℤ pos 10000)
    else nat_abs (quot_z (d +ℤ pos 5) (pos 10)) + 0x8000

-- the same from −10000 to 327655, by the ℕ that is d + 10000
unfoldable pub pack_raised : ℕ → ℕ
pack_raised n = when ltb n 0x8000 then n else (n - 10000 + 5) / 10 + 0x8000
