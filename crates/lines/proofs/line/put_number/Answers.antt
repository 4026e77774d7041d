-- `lines::line::put_number` meets its contract: the room is tested first, and the digits are few. Assumes nothing.
use mathlib.Core.Path.{sym, ◌∙◌}
use Prim.Native.Nat.{◌+◌}
use native.Mathlib.Omega.{arith}
use borrow.Author.Tests.{leb-true}
use lib.ListN.{length}
use Rattle.lines.specs.Lines.{longest_number}
use Rattle.lines.proofs.Puts.{within_put}
use Rattle.lines.proofs.Digits.{ten_at_most, length_leading}
use Rattle.lines.proofs.line.put_number.Goals as goal

pub put_leading-requires : goal.put_leading-requires
put_leading-requires c =
    let a = c.args in
    let room = leb-true (a.at + longest_number) (length a.out.now) (sym c.fits.ensures ∙ c.if-fits.true) in
    omega (arith, room, ten_at_most a.n (omega (arith, c.ranges.n)), length_leading a.n)

pub returns-then-fits : goal.returns-then-fits
returns-then-fits c =
    let a = c.args in
    let room = leb-true (a.at + longest_number) (length a.out.now) (sym c.fits.ensures ∙ c.if-fits.true) in (
      within_put longest_number room c.put_leading.ensures,
      omega (arith, c.put_leading.ensures.next, ten_at_most a.n (omega (arith, c.ranges.n)), length_leading a.n),
    )
