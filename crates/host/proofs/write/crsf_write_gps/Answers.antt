-- `host::write::crsf_write_gps` meets its contract. Assumes nothing.
use Rattle.positions.specs.Small.{gps_small}
use Rattle.host.proofs.Written.{frame_answered}
use mir.Syntax.{w32}
use mir.ValLaws.{to_z-of_z}
use Rattle.host.proofs.write.crsf_write_gps.Goals as goal

pub returns : goal.returns
returns c =
    let fits = c.ranges in
    simp (to_z-of_z w32 _ fits.latitude, to_z-of_z w32 _ fits.longitude)
    at (frame_answered _ _ _ _ c.write_packet_to_buffer.ensures (gps_small _) c.answer_result.ensures.written)
