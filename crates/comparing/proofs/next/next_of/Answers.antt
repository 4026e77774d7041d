-- `comparing::next::next_of` meets its contract. Assumes nothing.
use mathlib.Core.Path.{sym, ◌∙◌}
use borrow.Author.Rules.{rules}
use Rattle.comparing.proofs.Found.{finds_none, finds_one}
use Rattle.comparing.proofs.next.next_of.Goals as goal

pub returns-then-asks_for_more : goal.returns-then-asks_for_more
returns-then-asks_for_more c =
    finds_none (search rules) c.step_in-moved.ensures (sym c.asks_for_more.ensures ∙ c.if-asks_for_more.true)

pub returns : goal.returns
returns c =
    finds_one (search rules) c.step_in-moved.ensures (sym c.asks_for_more.ensures ∙ c.if-asks_for_more.false)
