-- `host::state::crsf_reset` meets its contract. Assumes nothing.
use Rattle.host_answer.proofs.Fits.{answered}
use Rattle.host.proofs.Kept.{reset_fits}
use Rattle.host.proofs.state.crsf_reset.Goals as goal

pub returns : goal.returns
returns c =
    answered c.reset.ensures (reset_fits _) c.answer_result.ensures.restored
