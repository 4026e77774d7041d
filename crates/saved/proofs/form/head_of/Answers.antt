-- `saved::form::head_of` meets its contract. Assumes nothing.
use Rattle.std.proofs.Common.{sym}
use Rattle.saved.proofs.Heads.{unmarked, not_empty, marked_inside, marked_number, marked_malformed}
use Rattle.saved.proofs.form.head_of.Goals as goal

pub returns-then-not-is_marked-clause-position : goal.returns-then-not-is_marked-clause-position
returns-then-not-is_marked-clause-position c = (unmarked _ (sym c.if-not-is_marked.ensures)).0

pub returns-then-not-is_marked-clause-older : goal.returns-then-not-is_marked-clause-older
returns-then-not-is_marked-clause-older c = (unmarked _ (sym c.if-not-is_marked.ensures)).1

pub slice_bounds-behind-count : goal.slice_bounds-behind-count
slice_bounds-behind-count c = not_empty c.args.form.now (sym c.if-not-is_marked.ensures)

pub slice_bounds-behind-start : goal.slice_bounds-behind-start
slice_bounds-behind-start c = not_empty c.args.form.now (sym c.if-not-is_marked.ensures)

pub slice_bounds-result-count : goal.slice_bounds-result-count
slice_bounds-result-count c = marked_inside c.args.form.now (sym c.if-not-is_marked.ensures) c.in-Ok.ensures

pub slice_bounds-result-start : goal.slice_bounds-result-start
slice_bounds-result-start c = marked_inside c.args.form.now (sym c.if-not-is_marked.ensures) c.in-Ok.ensures

pub returns-in-Ok-clause-position : goal.returns-in-Ok-clause-position
returns-in-Ok-clause-position c = (marked_number c.args.form.now (sym c.if-not-is_marked.ensures) c.in-Ok.ensures).0

pub returns-in-Ok-clause-older : goal.returns-in-Ok-clause-older
returns-in-Ok-clause-older c = (marked_number c.args.form.now (sym c.if-not-is_marked.ensures) c.in-Ok.ensures).1

pub returns-in-Err-clause-position : goal.returns-in-Err-clause-position
returns-in-Err-clause-position c = (marked_malformed c.args.form.now (sym c.if-not-is_marked.ensures) c.in-Err.ensures).0

pub returns-in-Err-clause-older : goal.returns-in-Err-clause-older
returns-in-Err-clause-older c = (marked_malformed c.args.form.now (sym c.if-not-is_marked.ensures) c.in-Err.ensures).1
