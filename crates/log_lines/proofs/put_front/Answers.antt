-- `log_lines::put_front` meets its contract. Assumes nothing.
use mathlib.Core.Path.{sym, ◌∙◌}
use Prim.Native.Nat.{◌+◌}
use native.Mathlib.Nat.{zero-add}
use borrow.Author.Tests.{leb-true}
use lib.ListN.{length}
use Rattle.lines.proofs.Puts.{puts_copy, within_put, within_none}
use Rattle.log_lines.proofs.put_front.Goals as goal

pub returns-then-fits : goal.returns-then-fits
returns-then-fits c =
    let a = c.args in
    let room = leb-true (0 + length a.text.now) (length a.out.now) (sym c.fits.ensures ∙ c.if-fits.true) in
    within_put (length a.text.now) room (record { next = sym (zero-add _); written = (puts_copy a.text.now room c.copy_in.ensures).written })

pub returns : goal.returns
returns c =
    let a = c.args in
    within_none a.out.now 0 (length a.text.now) a.text.now (sym c.fits.ensures ∙ c.if-fits.false)
