-- The held bytes are a valid state that asks for more. Assumes nothing.
use Rattle.std.proofs.Common.{◌≡◌, length}
use Rattle.listing_io.specs.State.{Sound}
use Rattle.listing_io.proofs.list_reads.Given as goal

abbrev pub invariant-loop : goal.invariant-loop
invariant-loop l = Sound (length l.initial.places) l.state.start l.state.end × (length l.places ≡ length l.initial.places)
