-- `comparing::turn::close` meets its contract. Assumes nothing.
use mathlib.Core.Path.{sym, ◌∙◌}
use Rattle.comparing.proofs.Turned.{closed_same, closed_other}
use Rattle.comparing.proofs.turn.close.Goals as goal

pub returns-then-is_same : goal.returns-then-is_same
returns-then-is_same c =
    let a = c.args in
    closed_same a.left.now a.right.now a.counts.agree a.counts.differ (sym c.is_same.ensures ∙ c.if-is_same.true)
    c.put_last-end.ensures.0 c.put_last-end.ensures.1

pub returns : goal.returns
returns c =
    let a = c.args in
    closed_other a.left.now a.right.now a.counts.agree a.counts.differ (sym c.is_same.ensures ∙ c.if-is_same.false)
    c.narrow.ensures c.narrow-2.ensures c.requires.0.0 c.requires.0.1 c.requires.1.0
    c.put_tails-behind.ensures.0 c.put_tails-behind.ensures.1 c.put_last-end-2.ensures.0 c.put_last-end-2.ensures.1
