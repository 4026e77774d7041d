-- Barometric altitude (RULES 10): a u16 and a signed byte.
-- Assumes nothing.
use Rattle.std.specs.Prelude.{ℕ, List, [], ◌∷◌, ℤ, pos, Result}
use Rattle.writing.specs.Writing.{Image, bytes}
use Rattle.layout.specs.Layout.{Field, signed, unsigned, record_bytes}
use Rattle.layout.specs.Decoded.{Decoded, decoded_by, read_of}
use Rattle.records.specs.declared.baro_altitude.BaroAltitude.{BaroAltitude}
use Rattle.refusals.specs.declared.Refusal.{Refusal}

abbrev pub baro_altitude_type : ℕ
baro_altitude_type = 0x09

abbrev pub baro_altitude_layout : List Field
baro_altitude_layout = unsigned 2 ∷ signed 1 ∷ []

unfoldable pub baro_altitude_values : BaroAltitude → List ℤ
baro_altitude_values x =
    pos x.altitude_packed ∷ x.vertical_speed_packed ∷ []

-- the record, or a refusal: what the reader says
abbrev pub BaroAltitudeRead : Type 0
BaroAltitudeRead = Result BaroAltitude Refusal

abbrev pub baro_altitude_decoded : BaroAltitudeRead → Decoded
baro_altitude_decoded = decoded_by baro_altitude_values

abbrev pub baro_altitude_read : List ℕ → Decoded
baro_altitude_read = read_of baro_altitude_layout

abbrev pub baro_altitude_image : BaroAltitude → Image
baro_altitude_image x = bytes (record_bytes baro_altitude_layout (baro_altitude_values x))
