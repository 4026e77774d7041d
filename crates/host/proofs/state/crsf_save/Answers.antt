-- `host::state::crsf_save` meets its contract. Assumes nothing.
use Rattle.host_answer.proofs.Fits.{answered}
use Rattle.host.proofs.Kept.{save_fits}
use Rattle.host.proofs.state.crsf_save.Goals as goal

pub returns : goal.returns
returns c =
    answered c.save.ensures (save_fits _ _) c.answer_result.ensures.written
