-- Each public function's promise leaves one answer, and one content of each buffer lent to be written.
-- Assumes nothing.
use Prim.Native.Nat.{ℕ}
use mathlib.Core.List.{List}
use lib.IntN.{ℤ}
use Rattle.base.proofs.Unique.{OneAnswer, same}
use Rattle.writing.specs.Writing.{Written}
use Rattle.writing.proofs.Rows.{one_write}
use Rattle.records.specs.declared.link_statistics.LinkStatistics.{LinkStatistics}
use Rattle.records.specs.LinkStatistics.{LinkStatisticsRead}
use Rattle.records.specs.declared.baro_altitude.BaroAltitude.{BaroAltitude}
use Rattle.records.specs.BaroAltitude.{BaroAltitudeRead}
use Rattle.records.specs.declared.battery.Battery.{Battery}
use Rattle.records.specs.Battery.{BatteryRead}
use Rattle.records.proofs.link_statistics.LinkStatistics.new.Reads as link-statistics-new
use Rattle.records.proofs.link_statistics.LinkStatisticsCrsfPacket.from_bytes.Reads as link-statistics-from-bytes
use Rattle.records.proofs.link_statistics.LinkStatisticsCrsfPacket.to_bytes.Reads as link-statistics-to-bytes
use Rattle.records.proofs.baro_altitude.BaroAltitude.new.Reads as baro-altitude-new
use Rattle.records.proofs.baro_altitude.BaroAltitudeCrsfPacket.from_bytes.Reads as baro-altitude-from-bytes
use Rattle.records.proofs.baro_altitude.BaroAltitudeCrsfPacket.to_bytes.Reads as baro-altitude-to-bytes
use Rattle.records.proofs.baro_altitude.BaroAltitude.get_altitude_dm.Reads as baro-altitude-get-altitude-dm
use Rattle.records.proofs.baro_altitude.BaroAltitude.get_altitude_packed.Reads as baro-altitude-get-altitude-packed
use Rattle.records.proofs.battery.Battery.new.Reads as battery-new
use Rattle.records.proofs.battery.BatteryCrsfPacket.from_bytes.Reads as battery-from-bytes
use Rattle.records.proofs.battery.BatteryCrsfPacket.to_bytes.Reads as battery-to-bytes
use Rattle.records.proofs.Known.{link_statistics_known, link_statistics_read_known, baro_altitude_known, baro_altitude_read_known, battery_known, battery_read_known}

pub link_statistics_new_one : OneAnswer {Seen = LinkStatistics} link-statistics-new.Post (λ κs r s. r)
link_statistics_new_one κs a r r' s s' = link_statistics_known

pub link_statistics_from_bytes_one : OneAnswer {Seen = LinkStatisticsRead} link-statistics-from-bytes.Post (λ κs r s. r)
link_statistics_from_bytes_one κs a r r' s s' = link_statistics_read_known

pub link_statistics_to_bytes_one : OneAnswer {Seen = Written × List ℕ} link-statistics-to-bytes.Post (λ κs r s. (r, s.1.0.now))
link_statistics_to_bytes_one κs a r r' s s' = one_write

pub baro_altitude_new_one : OneAnswer {Seen = BaroAltitude} baro-altitude-new.Post (λ κs r s. r)
baro_altitude_new_one κs a r r' s s' = baro_altitude_known

pub baro_altitude_from_bytes_one : OneAnswer {Seen = BaroAltitudeRead} baro-altitude-from-bytes.Post (λ κs r s. r)
baro_altitude_from_bytes_one κs a r r' s s' = baro_altitude_read_known

pub baro_altitude_to_bytes_one : OneAnswer {Seen = Written × List ℕ} baro-altitude-to-bytes.Post (λ κs r s. (r, s.1.0.now))
baro_altitude_to_bytes_one κs a r r' s s' = one_write

pub baro_altitude_get_altitude_dm_one : OneAnswer {Seen = ℤ} baro-altitude-get-altitude-dm.Post (λ κs r s. r.0)
baro_altitude_get_altitude_dm_one κs a r r' s s' = same

pub baro_altitude_get_altitude_packed_one : OneAnswer {Seen = ℕ} baro-altitude-get-altitude-packed.Post (λ κs r s. r)
baro_altitude_get_altitude_packed_one κs a r r' s s' = same

pub battery_new_one : OneAnswer {Seen = Battery} battery-new.Post (λ κs r s. r)
battery_new_one κs a r r' s s' = battery_known

pub battery_from_bytes_one : OneAnswer {Seen = BatteryRead} battery-from-bytes.Post (λ κs r s. r)
battery_from_bytes_one κs a r r' s s' = battery_read_known

pub battery_to_bytes_one : OneAnswer {Seen = Written × List ℕ} battery-to-bytes.Post (λ κs r s. (r, s.1.0.now))
battery_to_bytes_one κs a r r' s s' = one_write
