-- `lines::line::put_crc` meets its contract. Assumes nothing.
use native.Mathlib.Omega.{arith}
use Rattle.lines.specs.Lines.{crc_line}
use Rattle.lines.proofs.Puts.{puts_then}
use Rattle.lines.proofs.line.put_crc.Goals as goal

pub returns : goal.returns
unfolding crc_line
returns c =
    record {
      puts = puts_then (omega arith)
          (puts_then (omega arith) (puts_then (omega arith) c.put_word-a.ensures c.put_hex-b.ensures) c.put_hex-c.ensures)
          c.put_word.ensures;
      short = omega arith;
    }
