-- `lines::line::put_one` meets its contract. Assumes nothing.
use native.Mathlib.Omega.{arith}
use lib.ListN.{length-append}
use Rattle.lines.specs.Lines.{spaced_hex, byte_line}
use Rattle.lines.proofs.Puts.{puts_then}
use Rattle.lines.proofs.line.put_one.Goals as goal

pub returns : goal.returns
unfolding byte_line
returns c =
    let room = c.requires in
    let long = length-append c.args.word.now (spaced_hex c.args.byte) in
    record {
      puts = puts_then (omega arith) (puts_then (omega arith) c.put_word-a.ensures c.put_hex-b.ensures) c.put_word.ensures;
      short = omega (arith, c.put_word-a.ensures.next, c.put_hex-b.ensures.next, c.put_word.ensures.next);
    }
