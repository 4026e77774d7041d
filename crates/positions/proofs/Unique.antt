-- Each public function's promise leaves one answer, and one content of each buffer lent to be written.
-- Assumes nothing.
use Prim.Native.Nat.{ℕ}
use mathlib.Core.List.{List}
use lib.IntN.{ℤ}
use Rattle.base.proofs.Unique.{OneAnswer, same}
use Rattle.writing.specs.Writing.{Written}
use Rattle.writing.proofs.Rows.{one_write}
use Rattle.positions.specs.declared.gps.Gps.{Gps}
use Rattle.positions.specs.Gps.{GpsRead}
use Rattle.positions.specs.declared.gps_extended.GpsExtended.{GpsExtended}
use Rattle.positions.specs.GpsExtended.{GpsExtendedRead}
use Rattle.positions.proofs.gps.Gps.new.Reads as gps-new
use Rattle.positions.proofs.gps.GpsCrsfPacket.from_bytes.Reads as gps-from-bytes
use Rattle.positions.proofs.gps.GpsCrsfPacket.to_bytes.Reads as gps-to-bytes
use Rattle.positions.proofs.gps.Gps.get_altitude_m.Reads as gps-get-altitude-m
use Rattle.positions.proofs.gps_extended.GpsExtended.new.Reads as gps-extended-new
use Rattle.positions.proofs.gps_extended.GpsExtendedCrsfPacket.from_bytes.Reads as gps-extended-from-bytes
use Rattle.positions.proofs.gps_extended.GpsExtendedCrsfPacket.to_bytes.Reads as gps-extended-to-bytes
use Rattle.positions.proofs.Known.{gps_known, gps_read_known, gps_extended_known, gps_extended_read_known}

pub gps_new_one : OneAnswer {Seen = Gps} gps-new.Post (λ κs r s. r)
gps_new_one κs a r r' s s' = gps_known

pub gps_from_bytes_one : OneAnswer {Seen = GpsRead} gps-from-bytes.Post (λ κs r s. r)
gps_from_bytes_one κs a r r' s s' = gps_read_known

pub gps_to_bytes_one : OneAnswer {Seen = Written × List ℕ} gps-to-bytes.Post (λ κs r s. (r, s.1.0.now))
gps_to_bytes_one κs a r r' s s' = one_write

pub gps_get_altitude_m_one : OneAnswer {Seen = ℤ} gps-get-altitude-m.Post (λ κs r s. r.0)
gps_get_altitude_m_one κs a r r' s s' = same

pub gps_extended_new_one : OneAnswer {Seen = GpsExtended} gps-extended-new.Post (λ κs r s. r)
gps_extended_new_one κs a r r' s s' = gps_extended_known

pub gps_extended_from_bytes_one : OneAnswer {Seen = GpsExtendedRead} gps-extended-from-bytes.Post (λ κs r s. r)
gps_extended_from_bytes_one κs a r r' s s' = gps_extended_read_known

pub gps_extended_to_bytes_one : OneAnswer {Seen = Written × List ℕ} gps-extended-to-bytes.Post (λ κs r s. (r, s.1.0.now))
gps_extended_to_bytes_one κs a r r' s s' = one_write
