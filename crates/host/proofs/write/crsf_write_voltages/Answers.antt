-- `host::write::crsf_write_voltages` meets its contract. Assumes nothing.
use Rattle.series.specs.Small.{new_voltages_small}
use Rattle.host.proofs.Written.{frame_answered}
use Rattle.host.proofs.write.crsf_write_voltages.Goals as goal

pub returns : goal.returns
returns c =
    frame_answered _ _ _ _ c.write_values_to_buffer.ensures (new_voltages_small _ _) c.answer_result.ensures.written
