-- `comparing::compare_in` meets its contract. Assumes nothing.
use mathlib.Core.Path.{sym, ◌∙◌}
use native.Mathlib.Omega.{arith}
use Rattle.comparing.specs.Call.{compared_of}
use Rattle.comparing.proofs.compare_in.Goals as goal

pub fill-requires : goal.fill-requires
fill-requires c =
    sym c.is_counted.ensures ∙ c.if-is_counted.true

pub returns-then-is_counted : goal.returns-then-is_counted
unfolding compared_of
returns-then-is_counted c =
    (rw (sym c.is_counted.ensures ∙ c.if-is_counted.true) c.fill.ensures.0, c.fill.ensures.1)

pub returns : goal.returns
unfolding compared_of
returns c = (
  rw (sym c.is_counted.ensures ∙ c.if-is_counted.false),
  record { left_in = omega arith; right_in = omega arith; written_in = omega arith },
)
