-- `lines::put::put_digits` meets its contract. The digits of the tens leave a place for one more. Assumes nothing.
use native.Mathlib.Omega.{arith}
use Rattle.lines.proofs.Digits.{length_tens}
use Rattle.lines.proofs.Numbers.{puts_units, puts_tens, one_long}
use Rattle.lines.proofs.put.+put_digits.Goals as goal

pub bounds-out-at : goal.bounds-out-at
bounds-out-at t c = omega (arith, one_long c.args.n c.if-n-lt10.true, c.requires)

pub returns-then-n-lt10 : goal.returns-then-n-lt10
returns-then-n-lt10 t c =
    puts_units c.args.out.now c.args.at c.args.n c.low_digit.result c.if-n-lt10.true c.low_digit.ensures c.requires

pub put_digits-units-requires : goal.put_digits-units-requires
put_digits-units-requires t c = omega (arith, length_tens c.args.n c.if-n-lt10.false, c.requires)

pub bounds-out-units : goal.bounds-out-units
bounds-out-units t c =
    omega (arith, length_tens c.args.n c.if-n-lt10.false, c.requires, c.put_digits-units.ensures.next, c.put_digits-units.auto.out)

pub overflow_add-result-2 : goal.overflow_add-result-2
overflow_add-result-2 t c =
    omega (arith, length_tens c.args.n c.if-n-lt10.false, c.requires, c.put_digits-units.ensures.next, c.put_digits-units.auto.out, c.ranges)

pub returns : goal.returns
returns t c =
    puts_tens c.args.n c.low_digit-2.result c.if-n-lt10.false c.low_digit-2.ensures c.requires c.put_digits-units.ensures
