-- A record is known by its numbers, and a reader's answer by what is decoded: no two of them show the same.
-- Assumes nothing.
use mathlib.Core.List.{List}
use mathlib.Core.Path.{◌≡◌, refl}
use lib.IntN.{ℤ}
use Rattle.layout.specs.Decoded.{Decoded}
use Rattle.layout.proofs.Known.{whole, natural, known_by, answer_known}
use Rattle.records.specs.LinkStatistics.{link_statistics_values, link_statistics_decoded}
use Rattle.records.specs.BaroAltitude.{baro_altitude_values, baro_altitude_decoded}
use Rattle.records.specs.Battery.{battery_values, battery_decoded}
use Rattle.records.specs.declared.link_statistics.LinkStatistics.{LinkStatistics}
use Rattle.records.specs.LinkStatistics.{LinkStatisticsRead}
use Rattle.records.specs.declared.baro_altitude.BaroAltitude.{BaroAltitude}
use Rattle.records.specs.BaroAltitude.{BaroAltitudeRead}
use Rattle.records.specs.declared.battery.Battery.{Battery}
use Rattle.records.specs.Battery.{BatteryRead}

-- ---- link statistics

abbrev link_statistics_of : List ℤ → LinkStatistics
link_statistics_of vs = record {
  uplink_rssi_1 = natural 0 vs;
  uplink_rssi_2 = natural 1 vs;
  uplink_link_quality = natural 2 vs;
  uplink_snr = whole 3 vs;
  active_antenna = natural 4 vs;
  rf_mode = natural 5 vs;
  uplink_tx_power = natural 6 vs;
  downlink_rssi = natural 7 vs;
  downlink_link_quality = natural 8 vs;
  downlink_snr = whole 9 vs;
}

pub link_statistics_known : {x y : LinkStatistics} {vs : List ℤ} → link_statistics_values x ≡ vs → link_statistics_values y ≡ vs → x ≡ y
unfolding link_statistics_values
link_statistics_known = known_by link_statistics_values link_statistics_of (λ x. refl)

pub link_statistics_read_known : {r r' : LinkStatisticsRead} {a : Decoded} → link_statistics_decoded r ≡ a → link_statistics_decoded r' ≡ a → r ≡ r'
link_statistics_read_known = answer_known link_statistics_values (λ x y e. link_statistics_known e refl)

-- ---- baro altitude

abbrev baro_altitude_of : List ℤ → BaroAltitude
baro_altitude_of vs = record { altitude_packed = natural 0 vs; vertical_speed_packed = whole 1 vs }

pub baro_altitude_known : {x y : BaroAltitude} {vs : List ℤ} → baro_altitude_values x ≡ vs → baro_altitude_values y ≡ vs → x ≡ y
unfolding baro_altitude_values
baro_altitude_known = known_by baro_altitude_values baro_altitude_of (λ x. refl)

pub baro_altitude_read_known : {r r' : BaroAltitudeRead} {a : Decoded} → baro_altitude_decoded r ≡ a → baro_altitude_decoded r' ≡ a → r ≡ r'
baro_altitude_read_known = answer_known baro_altitude_values (λ x y e. baro_altitude_known e refl)

-- ---- battery

abbrev battery_of : List ℤ → Battery
battery_of vs = record { voltage = whole 0 vs; current = whole 1 vs; capacity_used = natural 2 vs; remaining = natural 3 vs; id = natural 4 vs }

pub battery_known : {x y : Battery} {vs : List ℤ} → battery_values x ≡ vs → battery_values y ≡ vs → x ≡ y
unfolding battery_values
battery_known = known_by battery_values battery_of (λ x. refl)

pub battery_read_known : {r r' : BatteryRead} {a : Decoded} → battery_decoded r ≡ a → battery_decoded r' ≡ a → r ≡ r'
battery_read_known = answer_known battery_values (λ x y e. battery_known e refl)
