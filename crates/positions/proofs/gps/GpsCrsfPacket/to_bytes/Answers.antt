-- `positions::gps::Gps::to_bytes` meets its contract: each field is written at its place of the layout.
-- Assumes nothing.
use lib.Dec.{lit≤}
use Rattle.positions.specs.Gps.{gps_layout, gps_values}
use Rattle.layout.proofs.Writers.{Typed, put_from, no_room, wrote_all}
use borrow.Author.Rules.{rules}
use Rattle.positions.proofs.gps.GpsCrsfPacket.to_bytes.Goals as goal

pub returns-then-buffer-lt-MIN_PAYLOAD_SIZE : goal.returns-then-buffer-lt-MIN_PAYLOAD_SIZE
unfolding gps_values
returns-then-buffer-lt-MIN_PAYLOAD_SIZE c =
    no_room gps_layout (gps_values c.args.self) (lit≤ tt) c.args.buffer.now c.if-buffer-lt-MIN_PAYLOAD_SIZE.true

pub returns : goal.returns
unfolding gps_values put_from
returns c =
    let typed : Typed gps_layout (gps_values c.args.self) = search rules in
    wrote_all gps_layout (gps_values c.args.self) (lit≤ tt) c.args.buffer.now c.if-buffer-lt-MIN_PAYLOAD_SIZE.false typed
    (rw (
      c.put_u8.ensures,
      c.put_u16-3.ensures,
      c.put_u16-2.ensures,
      c.put_u16.ensures,
      c.put_i32-2.ensures,
      c.put_i32.ensures,
    ))
