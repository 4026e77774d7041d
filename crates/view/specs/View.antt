-- Parts of lent bytes, and what any four bytes or more show as a frame.
-- Assumes nothing.
use Rattle.std.specs.Prelude.{ℕ, ◌-◌, Bool, false, List, [], ◌∷◌, length, get_or, ltb, Result, Ok, Err}
use Rattle.base.specs.Choice.{when◌then◌else◌}
use Rattle.base.specs.Parts.{part}
use Rattle.refusals.specs.Row.{row_of}
use Rattle.refusals.specs.declared.Refusal.{Refusal}
use Rattle.refusals.specs.declared.Refusal.TheVariants.{InvalidPayloadLength}
use Rattle.stream.specs.Step.{bytes_at, is_held}
use Rattle.stream.specs.declared.step.Reply.{Reply}
use Rattle.stream.specs.declared.step.Reply.TheVariants.{More, Frame, Refused}
use Rattle.view.specs.declared.RawView.{RawView}

-- the bytes that a reply points at, a part of the caller's piece or of the held bytes' places (RULES 6)
unfoldable pub frame_of : Reply → List ℕ → List ℕ → List ℕ
frame_of More piece places = []
frame_of (Frame p) piece places = bytes_at p piece places
frame_of (Refused r) piece places = []

-- and whether they stand among the held bytes
unfoldable pub of_held : Reply → Bool
of_held More = false
of_held (Frame p) = is_held p
of_held (Refused r) = false

-- a raw view as a row: 0, address, type and check byte, or the refusal's
unfoldable pub raw_row : Result RawView Refusal → List ℕ
raw_row (Ok v) = 0 ∷ v.address ∷ v.kind ∷ v.check ∷ []
raw_row (Err r) = row_of r

-- of four bytes or more: byte 0, byte 2 and the last byte (RULES 8)
unfoldable pub raw_of : List ℕ → List ℕ
raw_of s = when ltb (length s) 4 then row_of InvalidPayloadLength else 0 ∷ get_or s 0 0 ∷ get_or s 2 0 ∷ get_or s (length s - 1) 0 ∷ []

-- and the bytes between byte 2 and the last
unfoldable pub payload_of : List ℕ → List ℕ
payload_of s = when ltb (length s) 4 then [] else part s 3 (length s - 4)
