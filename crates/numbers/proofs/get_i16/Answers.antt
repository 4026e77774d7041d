-- `numbers::get_i16` meets its contract: the number of 2 bytes fits an i16. Assumes nothing.
use mathlib.Core.Path.{refl, ◌∙◌}
use lib.Dec.{lit<}
use mir.Syntax.{w32, w16}
use mir.Val.{SFits}
use mir.ValLaws.{to_z-of_z}
use Rattle.numbers.proofs.Signs.{recast, fits_part}
use Rattle.numbers.proofs.get_i16.Goals as goal

pub overflow_cast-result : goal.overflow_cast-result
overflow_cast-result c =
    let read : SFits w32 c.get_signed.result = record { sfits = c.get_signed.type_inv } in
    let fits : SFits w16 c.get_signed.result = fits_part w16 2 _ c.args.at (lit< tt) refl
    (λ i. (c.shared_slice_known-1.given i).fits) c.get_signed.ensures in
    rw (to_z-of_z w32 c.get_signed.result read) fits

pub returns : goal.returns
returns c =
    let read : SFits w32 c.get_signed.result = record { sfits = c.get_signed.type_inv } in
    let fits : SFits w16 c.get_signed.result = fits_part w16 2 _ c.args.at (lit< tt) refl
    (λ i. (c.shared_slice_known-1.given i).fits) c.get_signed.ensures in
    recast w32 w16 c.get_signed.result read fits ∙ c.get_signed.ensures
