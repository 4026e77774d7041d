-- Battery (RULES 10): two i16, a capacity of 24 bits, a u8, and the id, which is written only when it is not 0. An absent id reads as 0.
-- A record may have any capacity of 32 bits; one that 24 bits don't hold is refused in writing.
-- Assumes nothing.
use Rattle.std.specs.Prelude.{ℕ, ◌^◌, List, [], ◌∷◌, ◌++◌, eqb, ltb, ℤ, pos, take, Result}
use Rattle.base.specs.Choice.{when◌then◌else◌}
use Rattle.refusals.specs.declared.Refusal.TheVariants.{CapacityRange}
use Rattle.writing.specs.Writing.{Image, bytes, refused}
use Rattle.layout.specs.Layout.{Field, signed, unsigned, read_as, record_bytes}
use Rattle.layout.specs.Decoded.{Decoded, decoded, decoded_by, too_short}
use Rattle.records.specs.declared.battery.Battery.{Battery}
use Rattle.refusals.specs.declared.Refusal.{Refusal}

abbrev pub battery_type : ℕ
battery_type = 0x08

abbrev pub battery_layout : List Field
battery_layout = signed 2 ∷ signed 2 ∷ unsigned 3 ∷ unsigned 1 ∷ unsigned 1 ∷ []

-- without the id
abbrev pub short_layout : List Field
short_layout = take 4 battery_layout

unfoldable pub battery_values : Battery → List ℤ
battery_values x =
    x.voltage ∷ x.current ∷ pos x.capacity_used ∷ pos x.remaining ∷ pos x.id ∷ []

-- the record, or a refusal: what the reader says
abbrev pub BatteryRead : Type 0
BatteryRead = Result Battery Refusal

abbrev pub battery_decoded : BatteryRead → Decoded
battery_decoded = decoded_by battery_values

-- nine bytes or more have an id, eight have none
unfoldable pub battery_read : List ℕ → Decoded
battery_read payload =
    read_as battery_layout decoded (read_as short_layout (λ vs. decoded (vs ++ (pos 0 ∷ []))) too_short payload) payload

-- the fields that are written
abbrev pub battery_fields : ℕ → List Field
battery_fields id = when eqb id 0 then short_layout else battery_layout

abbrev pub battery_bytes : Battery → List ℕ
battery_bytes x = record_bytes (battery_fields x.id) (battery_values x)

-- the least capacity that 24 bits don't hold
abbrev pub too_large : ℕ
too_large = 2 ^ 24

-- what there is to write: a capacity that 24 bits don't hold is refused; else the bytes
unfoldable pub battery_image : Battery → Image
battery_image x = when ltb x.capacity_used too_large then bytes (battery_bytes x) else refused CapacityRange
