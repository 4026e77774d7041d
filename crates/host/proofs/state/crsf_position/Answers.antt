-- `host::state::crsf_position` meets its contract. Assumes nothing.
use Rattle.host_answer.proofs.Fits.{answered}
use Rattle.host.proofs.Kept.{position_fits}
use Rattle.host.proofs.state.crsf_position.Goals as goal

pub returns : goal.returns
returns c =
    answered c.position.ensures (position_fits _ _) c.answer_result.ensures.written
