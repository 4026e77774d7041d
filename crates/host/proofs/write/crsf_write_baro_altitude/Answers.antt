-- `host::write::crsf_write_baro_altitude` meets its contract. Assumes nothing.
use Rattle.records.specs.Small.{baro_altitude_small}
use Rattle.host.proofs.Written.{frame_answered}
use mir.Syntax.{w8}
use mir.ValLaws.{to_z-of_z}
use Rattle.host.proofs.write.crsf_write_baro_altitude.Goals as goal

pub returns : goal.returns
returns c =
    let fits = c.ranges in
    simp (to_z-of_z w8 _ fits.vertical_speed_packed)
    at (frame_answered _ _ _ _ c.write_packet_to_buffer.ensures (baro_altitude_small _) c.answer_result.ensures.written)
