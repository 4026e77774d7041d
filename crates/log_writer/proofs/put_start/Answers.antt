use Rattle.log_writer.proofs.Writes.{start_written}
use Rattle.log_writer.proofs.put_start.Goals as goal

pub returns : goal.returns
returns c =
    start_written c.args.out.now c.put.ensures
