-- Reading after writing gives the record back, and writing after reading the payload (RULES 10). Both are the laws of every layout. `HoldsAll`
-- says that each number is in the range of its field: the types of the struct's fields have just these ranges.
-- Assumes nothing.
use Rattle.std.specs.Prelude.{Ok}
use Prim.Native.Nat.{ℕ}
use mathlib.Core.List.{List, ◌++◌}
use mathlib.Core.Path.{◌≡◌, sym, ap}
use lib.Dec.{lit≤}
use lib.ListN.{length}
use Rattle.base.specs.Bytes.{Bytes}
use Rattle.layout.specs.Layout.{size_of, HoldsAll, record_bytes}
use Rattle.writing.specs.Writing.{bytes}
use Rattle.layout.proofs.Fields.{length_record_bytes, read_as_written}
use Rattle.layout.specs.Decoded.{decoded, too_short, decoded_by}
use Rattle.layout.proofs.Laws.{written_back}
use Rattle.positions.specs.Gps.{gps_layout, gps_values, gps_decoded, gps_read, gps_image}
use Rattle.positions.specs.GpsExtended.{gps_extended_layout, gps_extended_values, gps_extended_decoded, gps_extended_read, gps_extended_image}
use Rattle.positions.specs.declared.gps.Gps.{Gps}
use Rattle.positions.specs.declared.gps_extended.GpsExtended.{GpsExtended}

-- ---- gps

pub gps_long : (x : Gps) → length (record_bytes gps_layout (gps_values x)) ≡ size_of gps_layout
unfolding gps_values
gps_long x = length_record_bytes gps_layout (gps_values x) (lit≤ tt)

pub gps_read_written : (x : Gps) (after : List ℕ) → HoldsAll gps_layout (gps_values x)
    → gps_decoded (Ok x) ≡ gps_read (record_bytes gps_layout (gps_values x) ++ after)
unfolding decoded_by
gps_read_written x after h = sym (read_as_written gps_layout decoded too_short (gps_values x) after h)

pub gps_written_read : (x : Gps) (payload : List ℕ) → Bytes payload → length payload ≡ size_of gps_layout
    → gps_decoded (Ok x) ≡ gps_read payload → gps_image x ≡ bytes payload
unfolding decoded_by
gps_written_read x payload b e r = ap bytes (written_back gps_layout (gps_values x) payload b e r)

-- ---- gps extended

pub gps_extended_long : (x : GpsExtended) → length (record_bytes gps_extended_layout (gps_extended_values x)) ≡ size_of gps_extended_layout
unfolding gps_extended_values
gps_extended_long x = length_record_bytes gps_extended_layout (gps_extended_values x) (lit≤ tt)

pub gps_extended_read_written : (x : GpsExtended) (after : List ℕ) → HoldsAll gps_extended_layout (gps_extended_values x)
    → gps_extended_decoded (Ok x) ≡ gps_extended_read (record_bytes gps_extended_layout (gps_extended_values x) ++ after)
unfolding decoded_by
gps_extended_read_written x after h = sym (read_as_written gps_extended_layout decoded too_short (gps_extended_values x) after h)

pub gps_extended_written_read : (x : GpsExtended) (payload : List ℕ) → Bytes payload → length payload ≡ size_of gps_extended_layout
    → gps_extended_decoded (Ok x) ≡ gps_extended_read payload → gps_extended_image x ≡ bytes payload
unfolding decoded_by
gps_extended_written_read x payload b e r = ap bytes (written_back gps_extended_layout (gps_extended_values x) payload b e r)
