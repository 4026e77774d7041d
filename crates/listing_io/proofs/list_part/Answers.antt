-- `listing_io::list_part` meets its contract. Assumes nothing.
use mathlib.Core.Path.{refl}
use Rattle.std.specs.Prelude.{Ok, Err}
use Rattle.listing_io.proofs.Turns.{not_numbered, not_written}
use Rattle.listing_io.proofs.list_part.Goals as goal

pub returns-in_err-listed-clause-text : goal.returns-in_err-listed-clause-text
returns-in_err-listed-clause-text c =
    let refusal = c.in_err-listed.field-0.0 in (Err refusal, (c.in_err-listed.ensures, not_numbered refusal _ c.from_residual.ensures.1))

pub returns-in_err-print-clause-text : goal.returns-in_err-print-clause-text
returns-in_err-print-clause-text c =
    let listed = c.in_ok-listed.listed in (Ok listed, (c.in_ok-listed.ensures, not_written listed _ _ c.from_residual-in_err-print.ensures.1))

pub returns-clause-text : goal.returns-clause-text
returns-clause-text c = (Ok c.in_ok-listed.listed, (c.in_ok-listed.ensures, refl))
