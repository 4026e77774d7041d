-- Worked cases of batteries (RULES 10): without an id, and with one; and both sides of the largest capacity that is written.
-- Assumes nothing.
use Rattle.std.specs.Prelude.{ℕ, List, [], ◌∷◌, pos}
use Rattle.records.specs.declared.battery.Battery.{Battery}

-- 120, 15, a capacity, 50 and an id
abbrev pub battery : ℕ → ℕ → Battery
battery capacity id = record { voltage = pos 120; current = pos 15; capacity_used = capacity; remaining = 50; id = id }

-- a record, and the bytes that it is written as
abbrev pub battery_edges : List (Battery × List ℕ)
battery_edges =
    (battery 0x010203 0, 0x00 ∷ 0x78 ∷ 0x00 ∷ 0x0F ∷ 0x01 ∷ 0x02 ∷ 0x03 ∷ 0x32 ∷ [])
    ∷ (battery 0x010203 5, 0x00 ∷ 0x78 ∷ 0x00 ∷ 0x0F ∷ 0x01 ∷ 0x02 ∷ 0x03 ∷ 0x32 ∷ 0x05 ∷ [])
    ∷ (battery 16777215 0, 0x00 ∷ 0x78 ∷ 0x00 ∷ 0x0F ∷ 0xFF ∷ 0xFF ∷ 0xFF ∷ 0x32 ∷ [])
    ∷ (battery 16777215 5, 0x00 ∷ 0x78 ∷ 0x00 ∷ 0x0F ∷ 0xFF ∷ 0xFF ∷ 0xFF ∷ 0x32 ∷ 0x05 ∷ [])
    ∷ []

-- records that are refused with 11
abbrev pub capacity_edges : List Battery
capacity_edges = battery 16777216 0 ∷ battery 16777216 5 ∷ battery 4294967295 0 ∷ battery 4294967295 5 ∷ []
