-- GPS (RULES 10): two i32, three u16 and a u8.
-- Assumes nothing.
use Rattle.std.specs.Prelude.{ℕ, List, [], ◌∷◌, ℤ, pos, Result}
use Rattle.writing.specs.Writing.{Image, bytes}
use Rattle.layout.specs.Layout.{Field, signed, unsigned, record_bytes}
use Rattle.layout.specs.Decoded.{Decoded, decoded_by, read_of}
use Rattle.positions.specs.declared.gps.Gps.{Gps}
use Rattle.refusals.specs.declared.Refusal.{Refusal}

abbrev pub gps_type : ℕ
gps_type = 0x02

abbrev pub gps_layout : List Field
gps_layout = signed 4 ∷ signed 4 ∷ unsigned 2 ∷ unsigned 2 ∷ unsigned 2 ∷ unsigned 1 ∷ []

unfoldable pub gps_values : Gps → List ℤ
gps_values x =
    x.latitude ∷ x.longitude ∷ pos x.groundspeed ∷ pos x.heading ∷ pos x.altitude ∷ pos x.satellites ∷ []

-- the record, or a refusal: what the reader says
abbrev pub GpsRead : Type 0
GpsRead = Result Gps Refusal

abbrev pub gps_decoded : GpsRead → Decoded
gps_decoded = decoded_by gps_values

abbrev pub gps_read : List ℕ → Decoded
gps_read = read_of gps_layout

abbrev pub gps_image : Gps → Image
gps_image x = bytes (record_bytes gps_layout (gps_values x))
