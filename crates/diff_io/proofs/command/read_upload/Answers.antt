-- `diff_io::command::read_upload` meets its contract. Assumes nothing.
use native.Mathlib.Omega.{arith}
use lib.ListN.{length}
use lib.Seq.{length-take-le}
use Rattle.program.proofs.Named.{named_within}
use Rattle.diff_io.proofs.command.read_upload.Goals as goal

pub returns-in-Ok : goal.returns-in-Ok
returns-in-Ok c =
    let few = c.in-Ok.ensures.bound in
    named_within (length c.args.word.now) _ c.asked_by.ensures (omega (arith, length-take-le c.in-Ok.len c.arg.new.buf few, few, c.arg.auto.buf))
