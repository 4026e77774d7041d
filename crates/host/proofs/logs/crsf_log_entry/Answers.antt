-- `host::logs::crsf_log_entry` meets its contract. Assumes nothing.
use Rattle.host.proofs.KitLog.{entry_fits}
use Rattle.host_answer.proofs.Fits.{answered}
use borrow.Author.Rules.{rules}
use Rattle.host.proofs.logs.crsf_log_entry.Goals as goal

pub returns : goal.returns
returns c =
    answered c.put_entry.ensures (entry_fits c.args.seconds _ _ (search rules)) c.answer_result.ensures.written
