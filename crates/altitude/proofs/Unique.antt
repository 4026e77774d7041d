-- Each public function's promise leaves one answer.
-- Assumes nothing.
use Prim.Native.Nat.{ℕ}
use lib.IntN.{ℤ}
use Rattle.base.proofs.Unique.{OneAnswer, same}
use Rattle.altitude.proofs.gps_altitude.Reads as gps-altitude
use Rattle.altitude.proofs.baro_altitude.Reads as baro-altitude
use Rattle.altitude.proofs.pack_altitude.Reads as pack-altitude

pub gps_altitude_one : OneAnswer {Seen = ℤ} gps-altitude.Post (λ κs r s. r.0)
gps_altitude_one κs a r r' s s' = same

pub baro_altitude_one : OneAnswer {Seen = ℤ} baro-altitude.Post (λ κs r s. r.0)
baro_altitude_one κs a r r' s s' = same

pub pack_altitude_one : OneAnswer {Seen = ℕ} pack-altitude.Post (λ κs r s. r)
pack_altitude_one κs a r r' s s' = same
