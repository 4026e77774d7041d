-- `listing::fill` meets its contract. The invariant: the lines of the answers so far, and the listing from here on, are what is wanted. The measure is how
-- many bytes are held or unread. Assumes nothing.
use mathlib.Core.List.{◌++◌}
use Prim.Native.Nat.{◌+◌, ◌-◌}
use lib.ListN.{length}
use Rattle.stream.specs.Places.{held_in}
use Rattle.listing.specs.Listing.{list_of}
use Rattle.listing.proofs.Filled.{Filling}
use Rattle.listing.proofs.fill.Given as goal

abbrev pub invariant-loop-out : goal.invariant-loop-out
invariant-loop-out l = let m = length l.initial.places in
    let first = held_in l.initial.places l.start l.end in
    Filling m l.numbering (list_of m l.numbering first l.input (length l.initial.out)) (first ++ l.input) l.initial.out l.input (l.end - l.start) l.places l.from l.to l.taken l.at l.out

abbrev pub decreases-loop-out : goal.decreases-loop-out
decreases-loop-out l = (l.to - l.from) + (length l.input - l.taken)
