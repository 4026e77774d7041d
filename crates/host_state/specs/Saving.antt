-- What the count of held bytes, the position, a reset, a save and a restore answer and leave (RULES 14.2, 14.3, 14.7). Reset and restore overwrite the
-- state, so of it they test only its length.
-- Assumes nothing.
use Rattle.std.specs.Prelude.{ℕ, ◌-◌, ◌&&◌, List, [], ◌∷◌, length}
use Rattle.base.specs.Choice.{when◌then◌else◌}
use Rattle.base.specs.Parts.{pasted}
use Rattle.refusals.specs.Row.{row_of}
use Rattle.refusals.specs.declared.Refusal.TheVariants.{BadState}
use Rattle.writing.specs.Writing.{Image, bytes, refused}
use Rattle.reading.specs.Reading.{limit}
use Rattle.saved.specs.Form as forms
use Rattle.saved.specs.Form.{is_form, held_of}
use Rattle.saved.specs.Save.{save_image, held_row}
use Rattle.host_state.specs.State.{state_of, start_in, end_in, places_in, position_in, has_size, is_state}

-- how many bytes are held
unfoldable pub held_row_of : List ℕ → List ℕ
held_row_of state = when is_state state then held_row (end_in state - start_in state) else row_of BadState

-- where it stands, as numbers to be written
unfoldable pub position_image : List ℕ → Image
position_image state = when is_state state then bytes (position_in state ∷ []) else refused BadState

-- the row, and the state afterwards
unfoldable pub reset_state : List ℕ → List ℕ × List ℕ
reset_state state = when has_size state then (held_row 0, state_of 0 0 (places_in state) 0) else (row_of BadState, state)

-- what a save writes
unfoldable pub state_image : List ℕ → Image
state_image state = when has_size state then save_image (places_in state) (start_in state) (end_in state) (position_in state) else refused BadState

-- the row, and the state afterwards: it holds the bytes of the form, at the front of its places, and stands where that says
unfoldable pub restore_state : List ℕ → List ℕ → List ℕ × List ℕ
restore_state form state =
    let held = held_of limit form in
    when has_size state && is_form limit form
    then (held_row (length held), state_of 0 (length held) (pasted (places_in state) 0 held) (forms.position_in form))
    else (row_of BadState, state)
