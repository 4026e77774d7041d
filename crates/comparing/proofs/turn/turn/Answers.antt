-- `comparing::turn::turn` meets its contract. Assumes nothing.
use Rattle.comparing.proofs.Turned.{settled_again}
use Rattle.comparing.proofs.turn.turn.Goals as goal

pub returns-then-is_again : goal.returns-then-is_again
returns-then-is_again c =
    let a = c.args in
    settled_again c.next_of-a.ensures (c.is_again.ensures c.if-is_again.true) a.counts.agree a.counts.differ a.left.ends a.right.ends
