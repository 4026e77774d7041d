-- `crc::checked` meets its contract: `by_words` gives the remainder, and the two check bytes are compared. Assumes nothing.
use mathlib.Core.Path.{sym, ◌∙◌}
use borrow.Author.Tests.{eq-eqb, ne_eqb}
use Rattle.crc.proofs.checked.Goals as goal

pub returns-then-calculated-carried : goal.returns-then-calculated-carried
returns-then-calculated-carried c =
    let sum = c.by_words-calculated.ensures in simp (eq-eqb _ _ (sym sum ∙ c.if-calculated-carried.true))

pub returns : goal.returns
returns c =
    let sum = c.by_words-calculated.ensures in simp (sum, ne_eqb _ _ (λ e. c.if-calculated-carried.false (sum ∙ e)))
