-- `lines::line::put_frame` meets its contract. Assumes nothing.
use native.Mathlib.Omega.{arith}
use Rattle.lines.specs.Lines.{frame_line}
use Rattle.lines.proofs.Puts.{puts_then}
use Rattle.lines.proofs.Digits.{three_at_most}
use Rattle.lines.proofs.line.put_frame.Goals as goal

pub put_decimal-d-requires : goal.put_decimal-d-requires
put_decimal-d-requires c =
    omega (arith, three_at_most c.args.payload (omega (arith, c.ranges.payload)))

pub put_word-requires : goal.put_word-requires
put_word-requires c =
    omega (arith, c.put_decimal-d.ensures.1)

pub returns : goal.returns
unfolding frame_line
returns c =
    let short = three_at_most c.args.payload (omega (arith, c.ranges.payload)) in
    let room = c.requires in
    record {
      puts = puts_then (omega arith)
          (puts_then (omega arith)
          (puts_then (omega arith) (puts_then (omega arith) c.put_word-a.ensures c.put_hex-b.ensures) c.put_hex-c.ensures)
          c.put_decimal-d.ensures.0)
          c.put_word.ensures;
      short = omega arith;
    }
