-- `saved::held::held_bytes` meets its contract. Assumes nothing.
use Rattle.std.proofs.Common.{arith}
use Rattle.saved.proofs.Forms.{no_limit, not_number, number_inside, counted_is, counted_not}
use Rattle.saved.proofs.held.held_bytes.Goals as goal

pub returns-in_err-greatest : goal.returns-in_err-greatest
returns-in_err-greatest c = rw c.from_residual.ensures (no_limit c.args.form.now (omega (arith, c.in_err-greatest.ensures)))

pub returns-in_default : goal.returns-in_default
returns-in_default c = not_number c.args.form.now c.in_ok-greatest.ensures c.in_default.ensures

pub slice_bounds-held-count : goal.slice_bounds-held-count
slice_bounds-held-count c = number_inside c.args.form.now c.in_ok-greatest.ensures c.in-Ok.ensures

pub slice_bounds-held-start : goal.slice_bounds-held-start
slice_bounds-held-start c = number_inside c.args.form.now c.in_ok-greatest.ensures c.in-Ok.ensures

pub returns-then-held-value : goal.returns-then-held-value
returns-then-held-value c = counted_not c.args.form.now c.in_ok-greatest.ensures c.in-Ok.ensures c.if-held-value.true

pub returns : goal.returns
returns c = counted_is c.args.form.now c.in_ok-greatest.ensures c.in-Ok.ensures c.if-held-value.false
