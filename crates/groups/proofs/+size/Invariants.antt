-- `groups::size` ends because the number falls. Assumes nothing.
use Rattle.groups.proofs.+size.Given as goal

abbrev pub decreases-size : goal.decreases-size
decreases-size l = l.n
