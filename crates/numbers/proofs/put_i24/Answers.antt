-- `numbers::put_i24` meets its contract: the low 24 bits of an i32 are written. Assumes nothing.
use mathlib.Core.Path.{◌∙◌}
use mir.Syntax.{w32}
use mir.ValLaws.{to_z-of_z}
use Rattle.numbers.proofs.Signs.{put_cast}
use Rattle.numbers.proofs.put_i24.Goals as goal

pub returns : goal.returns
returns c =
    c.put_signed.ensures
    ∙ put_cast c.args.out.now c.args.at 3 (to_z-of_z w32 c.args.v c.ranges.v)
