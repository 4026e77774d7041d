-- `frames::write_packet_to_buffer` meets its contract, whatever the record: where no place is lent, its own writer refuses; and what that leaves in the
-- payload's places is framed. Assumes nothing.
use mathlib.Core.Path.{refl, ap}
use mathlib.Core.Bool.{not}
use borrow.Author.Tests.{not-true, not-false}
use Rattle.base.proofs.Tests.{not_as}
use Rattle.packets.specs.Listed.{listed}
use Rattle.frames.proofs.Lent.{lent_long, lent_none, unlisted, addressed, addressed_as}
use Rattle.frames.proofs.write_packet_to_buffer.Goals as goal

pub returns-then-not-is_address : goal.returns-then-not-is_address
returns-then-not-is_address g c =
    let a = c.args in
    let packet = g.P.CrsfPacket in
    unlisted a.dest packet.PACKET_TYPE (packet.image a.packet) a.buffer.now
    (not-true (listed a.dest) (not_as c.is_address.ensures (ap not c.if-not-is_address.true)))

pub returns-then-buffer-lt-OVERHEAD : goal.returns-then-buffer-lt-OVERHEAD
returns-then-buffer-lt-OVERHEAD g c =
    let a = c.args in
    let packet = g.P.CrsfPacket in
    addressed_as a.dest packet.PACKET_TYPE (packet.image a.packet) a.buffer.now
    (not-false (listed a.dest) (not_as c.is_address.ensures (ap not c.if-not-is_address.false)))
    (lent_none a.dest packet.PACKET_TYPE a.buffer.now (packet.image a.packet) c.to_bytes.result
    c.if-buffer-lt-OVERHEAD.true (g.met.P.CrsfPacket.small a.packet) c.to_bytes.ensures)

pub sealed-requires : goal.sealed-requires
sealed-requires g c =
    let a = c.args in
    let packet = g.P.CrsfPacket in
    let made = lent_long a.dest packet.PACKET_TYPE a.buffer.now c.if-buffer-lt-OVERHEAD.false _ refl (packet.image a.packet) (g.met.P.CrsfPacket.small a.packet) c.to_bytes-written.ensures in
    (made.few, made.enough)

pub returns : goal.returns
returns g c =
    let a = c.args in
    let packet = g.P.CrsfPacket in
    let made = lent_long a.dest packet.PACKET_TYPE a.buffer.now c.if-buffer-lt-OVERHEAD.false _ refl (packet.image a.packet) (g.met.P.CrsfPacket.small a.packet) c.to_bytes-written.ensures in
    addressed a.dest packet.PACKET_TYPE (packet.image a.packet) a.buffer.now
    (not-false (listed a.dest) (not_as c.is_address.ensures (ap not c.if-not-is_address.false)))
    made (rw c.PACKET_TYPE.ensures at c.sealed.ensures)
