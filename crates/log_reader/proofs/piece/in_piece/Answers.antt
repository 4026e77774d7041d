use mathlib.Core.Path.{sym, ◌∙◌}
use Rattle.log_reader.proofs.Pieces.{piece_wrong}
use Rattle.log_reader.proofs.piece.in_piece.Goals as goal

pub returns-in-Err : goal.returns-in-Err
returns-in-Err c =
    let a = c.args in
    piece_wrong a.seconds a.size a.input.now a.i c.requires.0 c.requires.1.0 c.requires.1.1
    (sym c.is_address.ensures ∙ c.if-not-is_address.false) (cc) c.checked.ensures c.in-Err.is c.refuse-in-Err.ensures
