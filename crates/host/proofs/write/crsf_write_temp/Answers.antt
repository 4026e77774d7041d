-- `host::write::crsf_write_temp` meets its contract. Assumes nothing.
use Rattle.series.specs.Small.{new_temp_small}
use Rattle.host.proofs.Written.{frame_answered}
use Rattle.host.proofs.write.crsf_write_temp.Goals as goal

pub returns : goal.returns
returns c =
    frame_answered _ _ _ _ c.write_values_to_buffer.ensures (new_temp_small _ _) c.answer_result.ensures.written
