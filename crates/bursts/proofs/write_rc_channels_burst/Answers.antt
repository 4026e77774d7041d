-- `bursts::write_rc_channels_burst` meets its contract: the sets one behind another are the numbers of the same burst.
-- Assumes nothing.
use mathlib.Core.Path.{◌≡◌, ap, ◌∙◌}
use borrow.Author.Rules.{rules}
use lib.ListN.{length}
use Rattle.writing.specs.Writing.{Image, write_of}
use Rattle.bursts.proofs.Laws.{flat_burst}
use Rattle.bursts.proofs.write_rc_channels_burst.Goals as goal

pub returns : goal.returns
returns c =
    let a = c.args in
    let size : length c.flat-numbers.result ≡ 128 = search rules in
    c.write_rc_channels_burst_values.ensures
    ∙ ap (λ (image : Image). write_of image a.buffer.now) (flat_burst a.dest c.flat-numbers.result a.sets a.count size c.flat-numbers.ensures)
