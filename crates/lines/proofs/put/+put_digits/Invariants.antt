-- `lines::put::put_digits` ends because the number falls. Assumes nothing.
use Rattle.lines.proofs.put.+put_digits.Given as goal

abbrev pub decreases-put_digits : goal.decreases-put_digits
decreases-put_digits l = l.n
