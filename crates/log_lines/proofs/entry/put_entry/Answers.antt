-- `log_lines::entry::put_entry` meets its contract: the room is tested first. Assumes nothing.
use mathlib.Core.Path.{sym, ◌∙◌}
use Prim.Native.Nat.{◌+◌}
use native.Mathlib.Omega.{arith}
use borrow.Author.Tests.{leb-true}
use lib.ListN.{length}
use Rattle.lines.specs.Lines.{longest, longest_number}
use Rattle.lines.proofs.Puts.{puts_then, puts_within, within_put, within_none}
use Rattle.log_lines.specs.Text.{longest_entry, entry_line}
use Rattle.log_lines.proofs.entry.put_entry.Goals as goal

pub returns-then-fits : goal.returns-then-fits
unfolding entry_line
returns-then-fits c =
    let a = c.args in
    let room = leb-true (a.at + longest_entry) (length a.out.now) (sym c.fits.ensures ∙ c.if-fits.true) in
    let kept = c.put_number-next.auto.out in
    let few = c.put_number-next.ensures.1 in
    let first = puts_within longest_number (omega arith) c.put_number-next.ensures.0 in
    let second = puts_within longest (omega arith) c.put_frame_line.ensures.0 in
    (within_put longest_entry room (puts_then (omega (arith, first.next)) first second), omega (arith, c.put_frame_line.ensures.1))

pub returns : goal.returns
returns c =
    let a = c.args in
    (within_none a.out.now a.at longest_entry _ (sym c.fits.ensures ∙ c.if-fits.false), omega arith)
