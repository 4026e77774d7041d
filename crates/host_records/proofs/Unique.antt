-- Each public function's promise leaves one answer, and one content of the slice lent to be written. `Post` is what the prover reads off the source's own
-- `ensures`, so a weaker clause there breaks its line here.
-- Assumes nothing.
use Prim.Native.Nat.{ℕ}
use mathlib.Core.List.{List}
use lib.IntN.{ℤ}
use Rattle.base.proofs.Unique.{OneAnswer, same}
use Rattle.host_records.proofs.give_link_statistics.Reads as give-link-statistics
use Rattle.host_records.proofs.give_gps.Reads as give-gps
use Rattle.host_records.proofs.give_gps_extended.Reads as give-gps-extended
use Rattle.host_records.proofs.give_battery.Reads as give-battery
use Rattle.host_records.proofs.give_baro_altitude.Reads as give-baro-altitude
use Rattle.host_records.proofs.give_channels.Reads as give-channels
use Rattle.host_records.proofs.give_rpm.Reads as give-rpm
use Rattle.host_records.proofs.give_temp.Reads as give-temp
use Rattle.host_records.proofs.give_voltages.Reads as give-voltages

pub give_link_statistics_one : OneAnswer {Seen = ℕ × List ℤ} give-link-statistics.Post (λ κs r s. (r, s.1.0.now))
give_link_statistics_one κs a r r' s s' = same

pub give_gps_one : OneAnswer {Seen = ℕ × List ℤ} give-gps.Post (λ κs r s. (r, s.1.0.now))
give_gps_one κs a r r' s s' = same

pub give_gps_extended_one : OneAnswer {Seen = ℕ × List ℤ} give-gps-extended.Post (λ κs r s. (r, s.1.0.now))
give_gps_extended_one κs a r r' s s' = same

pub give_battery_one : OneAnswer {Seen = ℕ × List ℤ} give-battery.Post (λ κs r s. (r, s.1.0.now))
give_battery_one κs a r r' s s' = same

pub give_baro_altitude_one : OneAnswer {Seen = ℕ × List ℤ} give-baro-altitude.Post (λ κs r s. (r, s.1.0.now))
give_baro_altitude_one κs a r r' s s' = same

pub give_channels_one : OneAnswer {Seen = ℕ × List ℕ} give-channels.Post (λ κs r s. (r, s.1.0.now))
give_channels_one κs a r r' s s' = same

pub give_rpm_one : OneAnswer {Seen = ℕ × List ℤ} give-rpm.Post (λ κs r s. (r, s.1.0.now))
give_rpm_one κs a r r' s s' = same

pub give_temp_one : OneAnswer {Seen = ℕ × List ℤ} give-temp.Post (λ κs r s. (r, s.1.0.now))
give_temp_one κs a r r' s s' = same

pub give_voltages_one : OneAnswer {Seen = ℕ × List ℕ} give-voltages.Post (λ κs r s. (r, s.1.0.now))
give_voltages_one κs a r r' s s' = same
