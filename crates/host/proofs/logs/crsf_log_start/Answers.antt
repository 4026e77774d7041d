-- `host::logs::crsf_log_start` meets its contract. Assumes nothing.
use Rattle.host.proofs.KitLog.{start_fits}
use Rattle.host_answer.proofs.Fits.{answered}
use Rattle.host.proofs.logs.crsf_log_start.Goals as goal

pub returns : goal.returns
returns c =
    answered c.put_start.ensures (start_fits _) c.answer_result.ensures.written
