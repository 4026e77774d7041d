-- `host::write::crsf_write_link_statistics` meets its contract. Assumes nothing.
use Rattle.records.specs.Small.{link_statistics_small}
use Rattle.host.proofs.Written.{frame_answered}
use mir.Syntax.{w8}
use mir.ValLaws.{to_z-of_z}
use Rattle.host.proofs.write.crsf_write_link_statistics.Goals as goal

pub returns : goal.returns
returns c =
    let fits = c.ranges in
    simp (to_z-of_z w8 _ fits.uplink_snr, to_z-of_z w8 _ fits.downlink_snr)
    at (frame_answered _ _ _ _ c.write_packet_to_buffer.ensures (link_statistics_small _) c.answer_result.ensures.written)
