-- A restore of the parser by value. (Its save is `save_image` of Save, over its places.)
-- Assumes nothing.
use Rattle.std.specs.Prelude.{ℕ, List, length}
use Rattle.base.specs.Choice.{when◌then◌else◌}
use Rattle.base.specs.Parts.{pasted}
use Rattle.refusals.specs.Row.{row_of}
use Rattle.refusals.specs.declared.Refusal.TheVariants.{BadState}
use Rattle.reading.specs.Reading.{limit}
use Rattle.parser.specs.declared.CrsfParser.{CrsfParser}
use Rattle.saved.specs.Form.{position_in, is_form, held_of}
use Rattle.saved.specs.Save.{held_row}

-- the row, and the parser afterwards
unfoldable pub resume_of : CrsfParser → List ℕ → List ℕ × CrsfParser
resume_of p form =
    let held = held_of limit form in
    when is_form limit form
    then (held_row (length held), record { buffer = pasted p.buffer 0 held; start = 0; end = length held; position = position_in form })
    else (row_of BadState, p)
