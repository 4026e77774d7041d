use Rattle.log_io.proofs.Pieces.{fresh}
use Rattle.log_io.proofs.list_reads.Goals as goal

pub loop-init : goal.loop-init
loop-init c = record { stands = rw c.reset-reader.ensures (fresh c.args.places.now c.requires.0); room = c.requires.1 }
