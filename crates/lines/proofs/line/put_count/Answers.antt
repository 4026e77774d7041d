-- `lines::line::put_count` meets its contract. Assumes nothing.
use native.Mathlib.Omega.{arith}
use Rattle.lines.specs.Lines.{held_line}
use Rattle.lines.proofs.Puts.{puts_then}
use Rattle.lines.proofs.Digits.{three_at_most}
use Rattle.lines.proofs.line.put_count.Goals as goal

pub put_decimal-b-requires : goal.put_decimal-b-requires
put_decimal-b-requires c =
    omega (arith, three_at_most c.args.held (omega (arith, c.ranges.held)))

pub returns : goal.returns
unfolding held_line
returns c =
    let few = three_at_most c.args.held (omega (arith, c.ranges.held)) in
    record {
      puts = puts_then (omega arith) (puts_then (omega arith) c.put_word-a.ensures c.put_decimal-b.ensures.0) c.put_word.ensures;
      short = omega arith;
    }
