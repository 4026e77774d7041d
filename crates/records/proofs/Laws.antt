-- Reading after writing gives the record back, and writing after reading the payload (RULES 10). Both are the laws of every layout. `HoldsAll`
-- says that each number is in the range of its field: the types of the struct's fields have just these ranges.
-- Assumes nothing.
use Rattle.std.specs.Prelude.{Ok}
use Prim.Native.Nat.{ℕ}
use mathlib.Core.List.{List, ◌++◌}
use mathlib.Core.Path.{◌≡◌, sym, ap}
use lib.Dec.{lit≤}
use lib.ListN.{length}
use Rattle.base.specs.Bytes.{Bytes}
use Rattle.layout.specs.Layout.{size_of, HoldsAll, record_bytes}
use Rattle.writing.specs.Writing.{bytes}
use Rattle.layout.proofs.Fields.{length_record_bytes, read_as_written}
use Rattle.layout.specs.Decoded.{decoded, too_short, decoded_by}
use Rattle.layout.proofs.Laws.{written_back}
use Rattle.records.specs.LinkStatistics.{link_statistics_layout, link_statistics_values, link_statistics_decoded, link_statistics_read, link_statistics_image}
use Rattle.records.specs.BaroAltitude.{baro_altitude_layout, baro_altitude_values, baro_altitude_decoded, baro_altitude_read, baro_altitude_image}
use Rattle.records.specs.declared.link_statistics.LinkStatistics.{LinkStatistics}
use Rattle.records.specs.declared.baro_altitude.BaroAltitude.{BaroAltitude}

-- ---- link statistics

pub link_statistics_long : (x : LinkStatistics) → length (record_bytes link_statistics_layout (link_statistics_values x)) ≡ size_of link_statistics_layout
unfolding link_statistics_values
link_statistics_long x = length_record_bytes link_statistics_layout (link_statistics_values x) (lit≤ tt)

pub link_statistics_read_written : (x : LinkStatistics) (after : List ℕ) → HoldsAll link_statistics_layout (link_statistics_values x)
    → link_statistics_decoded (Ok x) ≡ link_statistics_read (record_bytes link_statistics_layout (link_statistics_values x) ++ after)
unfolding decoded_by
link_statistics_read_written x after h = sym (read_as_written link_statistics_layout decoded too_short (link_statistics_values x) after h)

pub link_statistics_written_read : (x : LinkStatistics) (payload : List ℕ) → Bytes payload
    → length payload ≡ size_of link_statistics_layout
    → link_statistics_decoded (Ok x) ≡ link_statistics_read payload
    → link_statistics_image x ≡ bytes payload
unfolding decoded_by
link_statistics_written_read x payload b e r = ap bytes (written_back link_statistics_layout (link_statistics_values x) payload b e r)

-- ---- baro altitude

pub baro_altitude_long : (x : BaroAltitude) → length (record_bytes baro_altitude_layout (baro_altitude_values x)) ≡ size_of baro_altitude_layout
unfolding baro_altitude_values
baro_altitude_long x = length_record_bytes baro_altitude_layout (baro_altitude_values x) (lit≤ tt)

pub baro_altitude_read_written : (x : BaroAltitude) (after : List ℕ) → HoldsAll baro_altitude_layout (baro_altitude_values x)
    → baro_altitude_decoded (Ok x) ≡ baro_altitude_read (record_bytes baro_altitude_layout (baro_altitude_values x) ++ after)
unfolding decoded_by
baro_altitude_read_written x after h = sym (read_as_written baro_altitude_layout decoded too_short (baro_altitude_values x) after h)

pub baro_altitude_written_read : (x : BaroAltitude) (payload : List ℕ) → Bytes payload
    → length payload ≡ size_of baro_altitude_layout
    → baro_altitude_decoded (Ok x) ≡ baro_altitude_read payload
    → baro_altitude_image x ≡ bytes payload
unfolding decoded_by
baro_altitude_written_read x payload b e r = ap bytes (written_back baro_altitude_layout (baro_altitude_values x) payload b e r)
