use Rattle.lines.specs.Digits.{decimal_within}
use Rattle.lines.proofs.Puts.{within_nothing}
use Rattle.log_lines.specs.Text.{refusal_line}
use Rattle.log_lines.proofs.Laws.{no_line}
use Rattle.log_lines.proofs.put_refusal.Goals as goal

pub returns-in-InvalidLog : goal.returns-in-InvalidLog
unfolding refusal_line decimal_within
returns-in-InvalidLog c = rw c.in-InvalidLog.is c.put_front.ensures

pub returns-in-InvalidFrame : goal.returns-in-InvalidFrame
unfolding refusal_line decimal_within
returns-in-InvalidFrame c = rw c.in-InvalidFrame.is c.put_front-in-InvalidFrame.ensures

pub returns-in_default : goal.returns-in_default
returns-in_default c = rw (no_line c.args.refusal c.in_default.not-InvalidLog c.in_default.not-InvalidFrame) (within_nothing c.args.out.now 0 0)
