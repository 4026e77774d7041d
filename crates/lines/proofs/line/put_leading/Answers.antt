-- `lines::line::put_leading` meets its contract. Assumes nothing.
use native.Mathlib.Omega.{arith}
use Rattle.lines.proofs.Puts.{puts_then}
use Rattle.lines.proofs.Digits.{length_leading}
use Rattle.lines.proofs.line.put_leading.Goals as goal

pub put_digits-next-requires : goal.put_digits-next-requires
put_digits-next-requires c =
    omega (arith, c.requires, length_leading c.args.n)

pub put_word-requires : goal.put_word-requires
put_word-requires c =
    omega (arith, c.requires, length_leading c.args.n, c.put_digits-next.ensures.next, c.put_digits-next.auto.out)

pub returns : goal.returns
returns c =
    puts_then (omega (arith, c.requires, length_leading c.args.n)) c.put_digits-next.ensures c.put_word.ensures
