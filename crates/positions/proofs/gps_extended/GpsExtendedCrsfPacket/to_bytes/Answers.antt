-- `positions::gps_extended::GpsExtended::to_bytes` meets its contract: one part of the layout after the other.
-- Assumes nothing.
use lib.Dec.{lit≤}
use Rattle.positions.specs.GpsExtended.{gps_extended_layout, gps_extended_values}
use Rattle.layout.proofs.Writers.{no_room, wrote_in_two}
use Rattle.positions.proofs.gps_extended.GpsExtendedCrsfPacket.to_bytes.Goals as goal

pub returns-then-buffer-lt-MIN_PAYLOAD_SIZE : goal.returns-then-buffer-lt-MIN_PAYLOAD_SIZE
unfolding gps_extended_values
returns-then-buffer-lt-MIN_PAYLOAD_SIZE c =
    no_room gps_extended_layout (gps_extended_values c.args.self) (lit≤ tt) c.args.buffer.now c.if-buffer-lt-MIN_PAYLOAD_SIZE.true

pub returns : goal.returns
unfolding gps_extended_values
returns c =
    wrote_in_two gps_extended_layout (gps_extended_values c.args.self) (lit≤ tt) c.args.buffer.now 6 c.if-buffer-lt-MIN_PAYLOAD_SIZE.false
    c.put_speeds.ensures c.put_places.ensures
