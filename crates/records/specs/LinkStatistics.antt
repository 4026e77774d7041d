-- Link statistics (RULES 10): ten bytes, of which the two signal-to-noise ratios, at 3 and 9, are signed.
-- Assumes nothing.
use Rattle.std.specs.Prelude.{ℕ, List, [], ◌∷◌, ℤ, pos, Result}
use Rattle.writing.specs.Writing.{Image, bytes}
use Rattle.layout.specs.Layout.{Field, signed, unsigned, record_bytes}
use Rattle.layout.specs.Decoded.{Decoded, decoded_by, read_of}
use Rattle.records.specs.declared.link_statistics.LinkStatistics.{LinkStatistics}
use Rattle.refusals.specs.declared.Refusal.{Refusal}

abbrev pub link_statistics_type : ℕ
link_statistics_type = 0x14

abbrev pub link_statistics_layout : List Field
link_statistics_layout =
    unsigned 1 ∷ unsigned 1 ∷ unsigned 1 ∷ signed 1 ∷ unsigned 1
    ∷ unsigned 1 ∷ unsigned 1 ∷ unsigned 1 ∷ unsigned 1 ∷ signed 1 ∷ []

unfoldable pub link_statistics_values : LinkStatistics → List ℤ
link_statistics_values x =
    pos x.uplink_rssi_1 ∷ pos x.uplink_rssi_2 ∷ pos x.uplink_link_quality ∷ x.uplink_snr ∷ pos x.active_antenna
    ∷ pos x.rf_mode ∷ pos x.uplink_tx_power ∷ pos x.downlink_rssi ∷ pos x.downlink_link_quality ∷ x.downlink_snr ∷ []

-- the record, or a refusal: what the reader says
abbrev pub LinkStatisticsRead : Type 0
LinkStatisticsRead = Result LinkStatistics Refusal

abbrev pub link_statistics_decoded : LinkStatisticsRead → Decoded
link_statistics_decoded = decoded_by link_statistics_values

abbrev pub link_statistics_read : List ℕ → Decoded
link_statistics_read = read_of link_statistics_layout

abbrev pub link_statistics_image : LinkStatistics → Image
link_statistics_image x = bytes (record_bytes link_statistics_layout (link_statistics_values x))
