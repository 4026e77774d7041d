-- What a kit log is made of (RULES 16.1): the number 1, then entries, each the seconds since the entry before, the length of a frame, and the frame.
-- Assumes nothing.
use Rattle.std.specs.Prelude.{ℕ, ◌≤◌, List, [], ◌∷◌, ◌++◌, length}
use Rattle.groups.specs.Groups.{groups}
use Rattle.reading.specs.Reading.{limit}
use Rattle.reading.specs.Frame.{Valid}

-- no number in a log is greater: 2^32 − 1
abbrev pub greatest : ℕ
greatest = 4294967295

pub record Entry : Type 0 where
  pub seconds : ℕ
  pub frame : List ℕ

-- what may be written: the frame is one whole valid frame, so it has 4 bytes up to the limit
pub record Sound (e : Entry) : Type 0 where
  pub small : e.seconds ≤ greatest
  pub valid : Valid limit e.frame

abbrev pub AllSound : List Entry → Type 0
AllSound [] = Unit {0}
AllSound (e ∷ es) = Sound e × AllSound es

unfoldable pub entry_bytes : Entry → List ℕ
entry_bytes e = groups e.seconds ++ (groups (length e.frame) ++ e.frame)

unfoldable pub entries_bytes : List Entry → List ℕ
entries_bytes [] = []
entries_bytes (e ∷ es) = entry_bytes e ++ entries_bytes es

-- the number 1 alone is a log
unfoldable pub log_bytes : List Entry → List ℕ
log_bytes es = groups 1 ++ entries_bytes es
