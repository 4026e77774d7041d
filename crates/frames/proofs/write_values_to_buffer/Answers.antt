-- `frames::write_values_to_buffer` meets its contract, whatever the series: where no place is lent, nothing is written; and what is left in the payload's
-- places is framed. Assumes nothing.
use mathlib.Core.Path.{refl, ap}
use mathlib.Core.Bool.{not}
use borrow.Author.Tests.{not-true, not-false}
use Rattle.base.proofs.Tests.{not_as}
use Rattle.packets.specs.Listed.{listed}
use Rattle.series.specs.Series.{new_image}
use Rattle.frames.proofs.Lent.{lent_long, lent_none, unlisted, addressed, addressed_as}
use Rattle.frames.proofs.write_values_to_buffer.Goals as goal

pub returns-then-not-is_address : goal.returns-then-not-is_address
returns-then-not-is_address g c =
    let a = c.args in
    let kind = g.R.CrsfPacket.PACKET_TYPE in
    let image = new_image g.R.Valued.kind a.id a.values.now in
    unlisted a.dest kind image a.buffer.now
    (not-true (listed a.dest) (not_as c.is_address.ensures (ap not c.if-not-is_address.true)))

pub returns-then-buffer-lt-OVERHEAD : goal.returns-then-buffer-lt-OVERHEAD
returns-then-buffer-lt-OVERHEAD g c =
    let a = c.args in
    let kind = g.R.CrsfPacket.PACKET_TYPE in
    let image = new_image g.R.Valued.kind a.id a.values.now in
    addressed_as a.dest kind image a.buffer.now
    (not-false (listed a.dest) (not_as c.is_address.ensures (ap not c.if-not-is_address.false)))
    (lent_none a.dest kind a.buffer.now image c.write_values.result
    c.if-buffer-lt-OVERHEAD.true (g.met.R.Valued.new_small a.id a.values.now) c.write_values.ensures)

pub sealed-requires : goal.sealed-requires
sealed-requires g c =
    let a = c.args in
    let kind = g.R.CrsfPacket.PACKET_TYPE in
    let image = new_image g.R.Valued.kind a.id a.values.now in
    let made = lent_long a.dest kind a.buffer.now c.if-buffer-lt-OVERHEAD.false _ refl image (g.met.R.Valued.new_small a.id a.values.now) c.write_values-written.ensures in
    (made.few, made.enough)

pub returns : goal.returns
returns g c =
    let a = c.args in
    let kind = g.R.CrsfPacket.PACKET_TYPE in
    let image = new_image g.R.Valued.kind a.id a.values.now in
    let made = lent_long a.dest kind a.buffer.now c.if-buffer-lt-OVERHEAD.false _ refl image (g.met.R.Valued.new_small a.id a.values.now) c.write_values-written.ensures in
    addressed a.dest kind image a.buffer.now
    (not-false (listed a.dest) (not_as c.is_address.ensures (ap not c.if-not-is_address.false)))
    made (rw c.PACKET_TYPE.ensures at c.sealed.ensures)
