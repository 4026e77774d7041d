-- What the writer of a number answers and leaves: all of its bytes or none (RULES 2).
-- Assumes nothing.
use Rattle.std.specs.Prelude.{ℕ, List, length}
use Rattle.base.specs.Choice.{when◌then◌else◌}
use Rattle.base.specs.Parts.{fits_in, pasted}
use Rattle.refusals.specs.Row.{row_of}
use Rattle.refusals.specs.declared.Refusal.TheVariants.{BufferOverflow}
use Rattle.writing.specs.Writing.{wrote_row}
use Rattle.groups.specs.Groups.{groups}

-- the groups of n from place `at` on, where there is room for all of them
unfoldable pub put_of : ℕ → ℕ → List ℕ → List ℕ × List ℕ
put_of n at out =
    when fits_in (length out) at (length (groups n)) then (wrote_row (length (groups n)), pasted out at (groups n)) else (row_of BufferOverflow, out)
