use Rattle.log_reader.proofs.FrameSteps.{judged_wrong}
use Rattle.log_reader.proofs.held.judge.Goals as goal

pub returns-in-Err : goal.returns-in-Err
returns-in-Err c = let a = c.args in judged_wrong a.places.now a.seconds a.size a.carried c.requires c.checked.ensures c.in-Err.is
