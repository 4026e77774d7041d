-- `lines::line::put_held` meets its contract: the room is tested first. Assumes nothing.
use mathlib.Core.Path.{sym, ◌∙◌}
use Prim.Native.Nat.{◌+◌}
use borrow.Author.Tests.{leb-true}
use lib.ListN.{length}
use Rattle.lines.specs.Lines.{longest}
use Rattle.lines.proofs.Puts.{within_put}
use Rattle.lines.proofs.line.put_held.Goals as goal

pub returns-then-fits : goal.returns-then-fits
returns-then-fits c =
    let a = c.args in
    let room = leb-true (a.at + longest) (length a.out.now) (sym c.fits.ensures ∙ c.if-fits.true) in
    (within_put longest room c.put_count.ensures.puts, c.put_count.ensures.short)
