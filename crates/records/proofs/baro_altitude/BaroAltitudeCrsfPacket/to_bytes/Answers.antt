-- `records::baro_altitude::BaroAltitude::to_bytes` meets its contract: each field is written at its place of the layout.
-- Assumes nothing.
use lib.Dec.{lit≤}
use Rattle.records.specs.BaroAltitude.{baro_altitude_layout, baro_altitude_values}
use Rattle.layout.proofs.Writers.{Typed, put_from, no_room, wrote_all}
use borrow.Author.Rules.{rules}
use Rattle.records.proofs.baro_altitude.BaroAltitudeCrsfPacket.to_bytes.Goals as goal

pub returns-then-buffer-lt-MIN_PAYLOAD_SIZE : goal.returns-then-buffer-lt-MIN_PAYLOAD_SIZE
unfolding baro_altitude_values
returns-then-buffer-lt-MIN_PAYLOAD_SIZE c =
    no_room baro_altitude_layout (baro_altitude_values c.args.self) (lit≤ tt) c.args.buffer.now c.if-buffer-lt-MIN_PAYLOAD_SIZE.true

pub returns : goal.returns
unfolding baro_altitude_values put_from
returns c =
    let typed : Typed baro_altitude_layout (baro_altitude_values c.args.self) = search rules in
    wrote_all baro_altitude_layout (baro_altitude_values c.args.self) (lit≤ tt) c.args.buffer.now c.if-buffer-lt-MIN_PAYLOAD_SIZE.false typed
    (rw (c.put_i8.ensures, c.put_u16.ensures))
