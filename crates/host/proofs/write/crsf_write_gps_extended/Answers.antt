-- `host::write::crsf_write_gps_extended` meets its contract. Assumes nothing.
use Rattle.positions.specs.Small.{gps_extended_small}
use Rattle.host.proofs.Written.{frame_answered}
use mir.Syntax.{w16}
use mir.ValLaws.{to_z-of_z}
use Rattle.host.proofs.write.crsf_write_gps_extended.Goals as goal

pub returns : goal.returns
returns c =
    let fits = c.ranges in
    simp (
      to_z-of_z w16 _ fits.n_speed,
      to_z-of_z w16 _ fits.e_speed,
      to_z-of_z w16 _ fits.v_speed,
      to_z-of_z w16 _ fits.h_speed_acc,
      to_z-of_z w16 _ fits.track_acc,
      to_z-of_z w16 _ fits.alt_ellipsoid,
      to_z-of_z w16 _ fits.h_acc,
      to_z-of_z w16 _ fits.v_acc,
    )
    at (frame_answered _ _ _ _ c.write_packet_to_buffer.ensures (gps_extended_small _) c.answer_result.ensures.written)
