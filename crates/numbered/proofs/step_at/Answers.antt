-- `numbered::step_at` meets its contract. Assumes nothing.
use Rattle.std.proofs.Common.{sym, arith}
use Rattle.numbered.proofs.Steps.{summed, stepped_at}
use Rattle.numbered.proofs.step_at.Goals as goal

pub overflow_add-dropped : goal.overflow_add-dropped
overflow_add-dropped c =
    let s = summed (sym c.if-not-is_span.ensures) (sym c.if-not-is_within.ensures) c.step_in-moved.ensures in omega (arith, s.taken_fits)

pub overflow_sub-dropped-2 : goal.overflow_sub-dropped-2
overflow_sub-dropped-2 c =
    let s = summed (sym c.if-not-is_span.ensures) (sym c.if-not-is_within.ensures) c.step_in-moved.ensures in s.dropped_some

pub overflow_add-result : goal.overflow_add-result
overflow_add-result c =
    let s = summed (sym c.if-not-is_span.ensures) (sym c.if-not-is_within.ensures) c.step_in-moved.ensures in omega (arith, s.position_fits)

pub returns : goal.returns
returns c =
    stepped_at (sym c.if-not-is_span.ensures) (sym c.if-not-is_within.ensures) c.step_in-moved.ensures
