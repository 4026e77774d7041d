-- What the loop over two blocks keeps is `Kept`. Assumes nothing.
use Rattle.diff_io.proofs.Kept.{Kept}
use Rattle.diff_io.proofs.compare_blocks.Given as goal

abbrev pub invariant-loop : goal.invariant-loop
invariant-loop s =
    let l = s.l in
    let r = s.r in
    Kept s.initial.left s.initial.right s.initial.out s.left s.right s.out l.from l.to l.ends r.from r.to r.ends s.counts.agree s.counts.differ
