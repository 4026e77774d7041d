-- `host::state::crsf_restore` meets its contract. Assumes nothing.
use Rattle.host_answer.proofs.Fits.{answered}
use Rattle.host.proofs.Kept.{restore_fits}
use Rattle.host.proofs.state.crsf_restore.Goals as goal

pub returns : goal.returns
returns c =
    answered c.restore.ensures (restore_fits _ _) c.answer_result.ensures.restored
