-- `listing_io::list_piece` meets its contract. Assumes nothing.
use Rattle.listing_io.proofs.Kept.{begin, lent, again, leaves}
use Rattle.listing_io.proofs.Turns.{done_by}
use Rattle.listing_io.proofs.list_piece.Goals as goal

pub loop-init : goal.loop-init
loop-init c = begin c.args.before.numbering c.args.piece.now c.requires

pub returns-in-Some : goal.returns-in-Some
returns-in-Some c =
    let part = c.list_part in
    let done = done_by c.in_ok-listed.listed.status _ c.in-Some.ensures in
    rw done.1 (leaves c.loop.invariant part.auto.places part.auto.out (lent c.args.piece.now c.loop.taken c.in_ok-listed.ensures.ok) done.0)

pub loop-preserved : goal.loop-preserved
loop-preserved c =
    let part = c.list_part in
    again c.loop.invariant part.auto.places part.auto.out (lent c.args.piece.now c.loop.taken c.in_ok-listed.ensures.ok)
