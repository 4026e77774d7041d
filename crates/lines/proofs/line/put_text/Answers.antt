-- `lines::line::put_text` meets its contract: the room is tested first. Assumes nothing.
use mathlib.Core.Path.{sym, ◌∙◌}
use Prim.Native.Nat.{◌+◌}
use borrow.Author.Tests.{leb-true}
use lib.ListN.{length}
use Rattle.lines.proofs.Puts.{within_put}
use Rattle.lines.proofs.line.put_text.Goals as goal

pub returns-then-fits : goal.returns-then-fits
returns-then-fits c =
    let a = c.args in
    within_put (length a.text.now) (leb-true (a.at + length a.text.now) (length a.out.now) (sym c.fits.ensures ∙ c.if-fits.true)) c.put_word.ensures
