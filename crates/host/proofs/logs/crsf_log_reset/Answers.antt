-- `host::logs::crsf_log_reset` meets its contract. Assumes nothing.
use Rattle.host.proofs.KitLog.{row_answered}
use Rattle.host.proofs.logs.crsf_log_reset.Goals as goal

pub returns : goal.returns
returns c =
    row_answered c.reset.ensures c.answer_ending.ensures
