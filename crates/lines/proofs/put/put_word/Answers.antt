-- `lines::put::put_word` meets its contract. Assumes nothing.
use native.Mathlib.Omega.{arith}
use Rattle.lines.proofs.Puts.{puts_copy}
use Rattle.lines.proofs.put.put_word.Goals as goal

pub returns : goal.returns
returns c =
    puts_copy c.args.word.now (omega arith) c.copy_in.ensures
