-- What a save and a restore answer and leave, over lent places (RULES 9.4, 9.5). A save tests 8, then 5.
-- Assumes nothing.
use Rattle.std.specs.Prelude.{ℕ, List, [], ◌∷◌, length, Ok, Err, Result}
use Rattle.base.specs.Choice.{when◌then◌else◌}
use Rattle.base.specs.Parts.{pasted}
use Rattle.refusals.specs.Row.{row_of}
use Rattle.refusals.specs.declared.Refusal.TheVariants.{BadState}
use Rattle.writing.specs.Writing.{Image, bytes, refused}
use Rattle.stream.specs.Places.{held_in}
use Rattle.saved.specs.Form.{saved_form, can_save, is_form, held_of}
use Rattle.refusals.specs.declared.Refusal.{Refusal}

-- what there is to write: the form of the held bytes and their position, or refusal 8 where start and end are not those of a state, too much is held, or
-- the held bytes can't be numbered
unfoldable pub save_image : List ℕ → ℕ → ℕ → ℕ → Image
save_image places start end position =
    when can_save (length places) start end position then bytes (saved_form position (held_in places start end)) else refused BadState

-- how many bytes are held now, or a refusal: what a restore says
abbrev pub Restored : Type 0
Restored = Result ℕ Refusal

-- what a restore answers, as a row: 0 and how many bytes are held now, or the refusal's number and what it carries
abbrev pub held_row : ℕ → List ℕ
held_row n = 0 ∷ n ∷ []

unfoldable pub restored_row : Restored → List ℕ
restored_row (Ok n) = held_row n
restored_row (Err r) = row_of r

-- the row, and the places: the held bytes go to the front, and the places behind them are kept
unfoldable pub restore_of : List ℕ → List ℕ → List ℕ × List ℕ
restore_of form places =
    let held = held_of (length places) form in
    when is_form (length places) form then (held_row (length held), pasted places 0 held) else (row_of BadState, places)
