-- `host::write::crsf_write_battery` meets its contract. Assumes nothing.
use Rattle.records.specs.declared.battery.Battery.{Battery}
use Rattle.records.specs.Small.{battery_small}
use Rattle.host.proofs.Written.{frame_answered}
use mir.Syntax.{w16}
use mir.Val.{to_z, of_z}
use mir.ValLaws.{to_z-of_z}
use Rattle.host.proofs.write.crsf_write_battery.Goals as goal

pub returns : goal.returns
returns c =
    let fits = c.ranges in
    let a = c.args in
    let packet : Battery =
    record { voltage = to_z w16 (of_z w16 a.voltage); current = to_z w16 (of_z w16 a.current); capacity_used = a.capacity_used; remaining = a.remaining; id = a.id } in
    simp (to_z-of_z w16 _ fits.voltage, to_z-of_z w16 _ fits.current)
    at (frame_answered _ _ _ _ c.write_packet_to_buffer.ensures (battery_small packet) c.answer_result.ensures.written)
