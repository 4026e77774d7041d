-- `host::logs::crsf_log_next` meets its contract. Assumes nothing.
use Rattle.host_log.proofs.Fits.{log_fits}
use Rattle.host_answer.proofs.Fits.{in_bytes_lem}
use Rattle.host_answer.specs.Answer.{packed}
use mathlib.Core.Path.{ap, ◌∙◌}
use Rattle.host.proofs.logs.crsf_log_next.Goals as goal

pub returns : goal.returns
returns c =
    record {
      replied = c.step-replied.result;
      steps = c.step-replied.ensures;
      packs = c.answer_log.ensures ∙ ap packed (in_bytes_lem _ (log_fits c.step-replied.ensures));
      gives = c.give_seconds.ensures;
    }
