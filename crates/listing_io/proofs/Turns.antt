-- What becomes of a turn whose call was refused, and of one whose lines were not written.
-- Assumes nothing.
use mathlib.Core.Path.{◌≡◌, refl, sym, ap, subst}
use Rattle.std.specs.Prelude.{Option, None, Some, Result, Ok, Err}
use Rattle.std.specs.Result.{IsErrAnd}
use Rattle.refusals.specs.declared.Refusal.{Refusal}
use Rattle.program.specs.declared.Failed as program
use Rattle.std.proofs.lemmas.Option.{none-some}
use Rattle.listing.specs.declared.Listed.{Listed}
use Rattle.listing.specs.declared.Status.{Status}
use Rattle.listing.specs.declared.Status.TheVariants.{More, Full}
use Rattle.listing_io.specs.declared.State.{State}
use Rattle.listing_io.specs.declared.Stopped.{Stopped}
use Rattle.listing_io.specs.declared.Stopped.TheVariants.{Failed, Unnumbered}
use Rattle.listing_io.specs.State.{Becomes, left_by}

pub not_numbered : (refusal : Refusal) (r : Result Listed Stopped) → IsErrAnd r (λ stopped. stopped ≡ Unnumbered) → Becomes (Err refusal) r
not_numbered refusal (Ok l) is = absurd is
not_numbered refusal (Err stopped) is = subst (λ (s : Stopped). Becomes (Err refusal) (Err s)) (sym is) tt

pub not_written : (listed : Listed) (failed : program.Failed) (r : Result Listed Stopped) → IsErrAnd r (λ stopped. stopped ≡ Failed failed) → Becomes (Ok listed) r
not_written listed failed (Ok l) is = absurd is
not_written listed failed (Err stopped) is = subst (λ (s : Stopped). Becomes (Ok listed) (Err s)) (sym is) tt

in_some : State → Option State → State
in_some state None = state
in_some state (Some left) = left

-- a piece is done with where the listing asks for more, and leaves the state there
pub done_by : (status : Status) (state : State) {left : State} → Some left ≡ left_by status state → (status ≡ More) × (left ≡ state)
unfolding in_some
done_by More state e = (refl, ap (in_some state) e)
done_by Full state {left} e = absurd (none-some left (sym e))
