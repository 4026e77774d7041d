-- What a record may be written as: a payload that a frame has room for, or a refusal.
-- Assumes nothing.
use Rattle.std.specs.Prelude.{ℕ, ◌≤◌, ◌<◌, length}
use Rattle.writing.specs.Writing.{Image, bytes, refused}

-- the most bytes of a payload: a frame's 64, less the four about it
abbrev pub most_payload : ℕ
most_payload = 60

-- what a payload may be: of 1 to 60 bytes, or refused
abbrev pub Small : Image → Type 0
Small (bytes bs) = (0 < length bs) × (length bs ≤ most_payload)
Small (refused r) = Unit {0}
