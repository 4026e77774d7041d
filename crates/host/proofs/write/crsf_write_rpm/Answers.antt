-- `host::write::crsf_write_rpm` meets its contract. Assumes nothing.
use Rattle.series.specs.Small.{new_rpm_small}
use Rattle.host.proofs.Written.{frame_answered}
use Rattle.host.proofs.write.crsf_write_rpm.Goals as goal

pub returns : goal.returns
returns c =
    frame_answered _ _ _ _ c.write_values_to_buffer.ensures (new_rpm_small _ _) c.answer_result.ensures.written
