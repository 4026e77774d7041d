use Rattle.host_log.specs.Calls.{ending_row}
use Rattle.host_answer.proofs.Rows.{row_refusal}
use Rattle.host_answer.specs.Answer.{packed, answer_row}
use Rattle.log_reader.specs.Reader.{Ending}
use Prim.Native.Nat.{ℕ}
use mathlib.Core.Path.{sym, ap, ◌∙◌}
use Rattle.host_log.proofs.answer.answer_ending.Goals as goal

abbrev says : Ending → ℕ
says e = packed (answer_row (ending_row e))

pub returns-in-Ok : goal.returns-in-Ok
unfolding ending_row answer_row
returns-in-Ok c =
    c.count.ensures ∙ sym (ap says c.in-Ok.is)

pub returns-in-Err : goal.returns-in-Err
unfolding ending_row
returns-in-Err c =
    c.refuse.ensures ∙ sym (ap packed (row_refusal c.in-Err.refusal)) ∙ sym (ap says c.in-Err.is)
