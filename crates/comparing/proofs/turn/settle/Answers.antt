-- `comparing::turn::settle` meets its contract. Assumes nothing.
use mathlib.Core.Path.{sym, ◌∙◌}
use Rattle.comparing.proofs.Turned.{settled_same, settled_other}
use Rattle.comparing.proofs.turn.settle.Goals as goal

pub returns-then-is_alike : goal.returns-then-is_alike
returns-then-is_alike c =
    let a = c.args in
    settled_same c.requires.0.0 c.requires.0.1 a.counts.agree a.counts.differ (sym c.is_alike.ensures ∙ c.if-is_alike.true)

pub returns : goal.returns
returns c =
    let a = c.args in
    settled_other c.requires.0.0 c.requires.0.1 a.counts.agree a.counts.differ (sym c.is_alike.ensures ∙ c.if-is_alike.false)
    c.put_pair-end.ensures.0 c.put_pair-end.ensures.1
