-- `crc::tables::shifted` meets its contract: the shifts are linear, so those of the halves make those of the whole. Assumes nothing.
use mathlib.Core.Path.{◌∙◌, ap₂}
use lib.Bits.{bit_xor}
use Rattle.base.proofs.Linear.{parts}
use Rattle.crc.proofs.Shifts.{shifts_linear}
use Rattle.crc.proofs.tables.shifted.Goals as goal

pub returns : goal.returns
returns c =
    ap₂ bit_xor c.high.ensures c.low.ensures ∙ parts (shifts_linear 8) 4 c.args.i
