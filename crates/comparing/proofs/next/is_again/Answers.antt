-- `comparing::next::is_again` meets its contract. Assumes nothing.
use mathlib.Core.Path.{sym, ◌∙◌}
use mathlib.Core.Bool.{true≢false}
use native.Mathlib.Omega.{arith}
use lib.Seq.{length-take-le}
use borrow.Author.Tests.{not-false}
use Rattle.base.proofs.Tests.{not_as}
use Rattle.comparing.proofs.Found.{again}
use mathlib.Core.Path.{ap}
use mathlib.Core.Bool.{not}
use Rattle.comparing.proofs.next.is_again.Goals as goal

pub returns-then-not-is_frame : goal.returns-then-not-is_frame
returns-then-not-is_frame c =
    λ e. absurd (true≢false (sym e))

pub returns-then-right-size : goal.returns-then-right-size
returns-then-right-size c =
    λ e. absurd (true≢false (sym e))

pub slice_bounds-is_same-end : goal.slice_bounds-is_same-end
slice_bounds-is_same-end c =
    sym (length-take-le c.args.next.size c.args.left.now c.requires.inside)

pub slice_bounds-is_same-end-2 : goal.slice_bounds-is_same-end-2
slice_bounds-is_same-end-2 c =
    sym (length-take-le c.args.next.size c.args.right.now (omega (arith, c.if-right-size.false)))

pub returns : goal.returns
returns c =
    λ e.
    again c.requires c.args.right.now (not-false _ (not_as c.is_frame.ensures (ap not c.if-not-is_frame.false)))
    (omega (arith, c.if-right-size.false)) (sym c.is_same.ensures ∙ e)
