-- `saved::restore` meets its contract. Assumes nothing.
use Rattle.std.proofs.Common.{arith}
use Rattle.saved.proofs.Resumes.{resume_held, resume_refused}
use Rattle.saved.proofs.restore.Goals as goal

pub returns-in-Ok : goal.returns-in-Ok
returns-in-Ok c = let a = c.args in resume_held a.p a.form.now (omega arith) c.in-Ok.ensures c.position_in.ensures

pub returns-in-Err : goal.returns-in-Err
returns-in-Err c = let a = c.args in rw c.in-Err.is (resume_refused a.p a.form.now (omega arith) _ c.in-Err.ensures)
