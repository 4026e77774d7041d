-- GPS extended (RULES 10): a u8, eight i16 and three u8.
-- Assumes nothing.
use Rattle.std.specs.Prelude.{ℕ, List, [], ◌∷◌, ℤ, pos, Result}
use Rattle.writing.specs.Writing.{Image, bytes}
use Rattle.layout.specs.Layout.{Field, signed, unsigned, record_bytes}
use Rattle.layout.specs.Decoded.{Decoded, decoded_by, read_of}
use Rattle.positions.specs.declared.gps_extended.GpsExtended.{GpsExtended}
use Rattle.refusals.specs.declared.Refusal.{Refusal}

abbrev pub gps_extended_type : ℕ
gps_extended_type = 0x06

abbrev pub gps_extended_layout : List Field
gps_extended_layout =
    unsigned 1 ∷ signed 2 ∷ signed 2 ∷ signed 2 ∷ signed 2 ∷ signed 2
    ∷ signed 2 ∷ signed 2 ∷ signed 2 ∷ unsigned 1 ∷ unsigned 1 ∷ unsigned 1 ∷ []

unfoldable pub gps_extended_values : GpsExtended → List ℤ
gps_extended_values x =
    pos x.fix_type ∷ x.n_speed ∷ x.e_speed ∷ x.v_speed ∷ x.h_speed_acc ∷ x.track_acc
    ∷ x.alt_ellipsoid ∷ x.h_acc ∷ x.v_acc ∷ pos x.reserved ∷ pos x.h_dop ∷ pos x.v_dop ∷ []

-- the record, or a refusal: what the reader says
abbrev pub GpsExtendedRead : Type 0
GpsExtendedRead = Result GpsExtended Refusal

abbrev pub gps_extended_decoded : GpsExtendedRead → Decoded
gps_extended_decoded = decoded_by gps_extended_values

abbrev pub gps_extended_read : List ℕ → Decoded
gps_extended_read = read_of gps_extended_layout

abbrev pub gps_extended_image : GpsExtended → Image
gps_extended_image x = bytes (record_bytes gps_extended_layout (gps_extended_values x))
