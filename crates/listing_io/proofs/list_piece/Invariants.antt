-- What the loop over a piece keeps is `Kept`. Assumes nothing.
use Rattle.listing_io.proofs.Kept.{Kept}
use Rattle.listing_io.proofs.list_piece.Given as goal

abbrev pub invariant-loop : goal.invariant-loop
invariant-loop l =
    let first = l.initial.state in
    Kept l.initial.places l.initial.out first.start first.end first.numbering l.piece l.places l.out l.state.start l.state.end l.state.numbering l.taken
