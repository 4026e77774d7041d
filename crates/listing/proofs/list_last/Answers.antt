-- `listing::list_last` meets its contract: the room is tested first. Assumes nothing.
use mathlib.Core.Path.{sym, ap, ◌∙◌}
use Prim.Native.Nat.{◌+◌, ◌≤◌}
use native.Mathlib.Omega.{arith}
use borrow.Author.Tests.{leb-true}
use lib.ListN.{length}
use Rattle.base.specs.Parts.{fits_in}
use Rattle.lines.specs.Lines.{longest}
use Rattle.lines.proofs.Puts.{puts_then, puts_within, within_put, within_none}
use Rattle.listing.specs.Numbering.{room_for}
use Rattle.listing.proofs.list_last.Goals as goal

pub put_lead-behind-requires : goal.put_lead-behind-requires
put_lead-behind-requires c =
    let room : (let a = c.args in 0 + room_for a.numbering ≤ length a.out.now) = let a = c.args in
    omega (
      arith,
      leb-true (0 + c.room_for.result) (length a.out.now) (sym c.fits.ensures ∙ c.if-fits.true),
      c.room_for.ensures,
    ) in
    room

pub returns-then-fits : goal.returns-then-fits
returns-then-fits c =
    let room : (let a = c.args in 0 + room_for a.numbering ≤ length a.out.now) = let a = c.args in
    omega (
      arith,
      leb-true (0 + c.room_for.result) (length a.out.now) (sym c.fits.ensures ∙ c.if-fits.true),
      c.room_for.ensures,
    ) in
    let enough = room in
    let lead = c.put_lead-behind.ensures in
    let there : c.put_lead-behind.result + longest ≤ length c.put_lead-behind.new.out = omega (arith, lead.1, enough, c.put_lead-behind.auto.out) in (
      within_put (room_for c.args.numbering) enough
          (puts_then (omega (arith, lead.0.next, lead.1, enough)) lead.0 (puts_within longest there c.put_held.ensures.0)),
      omega (arith, lead.1, c.put_held.ensures.1),
    )

pub returns : goal.returns
returns c =
    let a = c.args in (
      within_none a.out.now 0 (room_for a.numbering) _
          (ap (fits_in (length a.out.now) 0) (sym c.room_for.ensures) ∙ sym c.fits.ensures ∙ c.if-fits.false),
      omega arith,
    )
