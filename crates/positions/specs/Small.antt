-- A position's payload fits a frame.
-- Assumes nothing.
use lib.Dec.{lit≤}
use Rattle.layout.specs.Packet.{Small}
use Rattle.layout.proofs.Writers.{record_small}
use Rattle.positions.specs.Gps.{gps_layout, gps_values, gps_image}
use Rattle.positions.specs.GpsExtended.{gps_extended_layout, gps_extended_values, gps_extended_image}
use Rattle.positions.specs.declared.gps.Gps.{Gps}
use Rattle.positions.specs.declared.gps_extended.GpsExtended.{GpsExtended}

pub gps_small : (x : Gps) → Small (gps_image x)
unfolding gps_values
gps_small x = record_small gps_layout (gps_values x) (lit≤ tt) (lit≤ tt) (lit≤ tt)

pub gps_extended_small : (x : GpsExtended) → Small (gps_extended_image x)
unfolding gps_extended_values
gps_extended_small x = record_small gps_extended_layout (gps_extended_values x) (lit≤ tt) (lit≤ tt) (lit≤ tt)
