-- `numbers::get_signed` meets its contract: the bytes make a number of their width, and `signed` reads its sign. Assumes nothing.
use mathlib.Core.Path.{◌∙◌}
use native.Mathlib.Omega.{arith}
use mir.Syntax.{w32}
use mir.ValLaws.{to_z-of_z}
use Rattle.base.specs.Bytes.{Bytes}
use Rattle.numbers.specs.Width.{width_of}
use Rattle.numbers.proofs.BigEndian.{be_of_part_lt}
use Rattle.numbers.proofs.get_signed.Goals as goal

pub signed-requires : goal.signed-requires
signed-requires c =
    let bytes : Bytes c.args.s.now = λ i. (c.shared_slice_known-1.given i).fits in (
      omega arith,
      omega arith,
      rw (c.width_of.ensures, c.get.ensures) (be_of_part_lt c.args.s.now c.args.at (width_of c.args.width) bytes),
    )

pub returns : goal.returns
returns c =
    to_z-of_z w32 c.signed.result (record { sfits = c.signed.type_inv })
    ∙ c.signed.ensures
    ∙ rw (c.width_of.ensures, c.get.ensures)
