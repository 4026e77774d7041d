-- `log_io::list_piece` meets its contract. Assumes nothing.
use Rattle.log_io.proofs.Pieces.{left, goes_on_by, no_state}
use Rattle.log_io.proofs.list_piece.Goals as goal

pub returns-in_err-next-clause-left : goal.returns-in_err-next-clause-left
returns-in_err-next-clause-left c =
    let listed = c.list_part-listed.result in
    let list = c.list_part-listed.ensures in
    (listed, (list, (left c.requires.stands c.requires.room list, no_state listed _ c.from_residual.ensures.0)))

pub returns-clause-left : goal.returns-clause-left
returns-clause-left c =
    let listed = c.list_part-listed.result in
    let list = c.list_part-listed.ensures in
    (listed, (list, (left c.requires.stands c.requires.room list, goes_on_by c.print-written.result listed c.in_ok-next.ensures)))

pub returns-clause-ok : goal.returns-clause-ok
returns-clause-ok c = left c.requires.stands c.requires.room c.list_part-listed.ensures
