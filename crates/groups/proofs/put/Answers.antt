-- `groups::put` meets its contract. Assumes nothing.
use mathlib.Core.Path.{sym, ◌∙◌}
use Rattle.groups.proofs.Steps.{put_room}
use Rattle.groups.proofs.put.Goals as goal

pub returns-then-fits : goal.returns-then-fits
returns-then-fits c =
    let a = c.args in
    put_room a.n a.at c.size-count.result a.out.now c.size-count.ensures (sym c.fits.ensures ∙ c.if-fits.true) c.put_all.ensures
