use mathlib.Core.Path.{sym, ◌∙◌}
use native.Mathlib.Omega.{arith}
use borrow.Author.Tests.{le-ltb}
use Rattle.log_lines.proofs.Going.{all_listed}
use Rattle.log_lines.proofs.list_part.Goals as goal

pub returns : goal.returns
returns c = all_listed (sym c.is_state.ensures ∙ c.if-not-is_state.false) (le-ltb _ _ (omega arith)) c.list_entries.ensures
