-- The states that a log leads to, and how many bytes a call on each takes at most (RULES 16.8): 71 from the start, one for the 1, five for the seconds, one for
-- the length and 64 for the frame.
-- Assumes nothing.
use Rattle.std.specs.Prelude.{◌≡◌, ℕ, ◌+◌, ◌-◌, ◌^◌, ◌≤◌, ◌<◌, eqb, length}
use Rattle.base.specs.Choice.{when◌then◌else◌}
use Rattle.reading.specs.Reading.{limit}
use Rattle.kit_log.specs.Entry.{greatest}
use Rattle.kit_log.specs.Reading.{Want, version, seconds, size, State, number, frame, refused, ended}

-- that many groups have come, where the next is worth w
pub record Weight (w : ℕ) : Type 0 where
  pub groups : ℕ
  pub few : groups ≤ 4
  pub is : w ≡ 128 ^ groups

abbrev pub Led : State → Type 0
Led (number want v w) = Weight w
Led (frame t n h) = (n ≤ limit) × (length h < n)
Led (refused r) = Unit {0}
Led ended = Unit {0}

-- a call takes no more: a number of more than one group can be neither the 1 nor a frame's length
abbrev pub most_in : Want → ℕ → ℕ
most_in version groups = when eqb groups 0 then 71 else 5 - groups
most_in seconds groups = 65 + (5 - groups)
most_in (size t) groups = when eqb groups 0 then 65 else 5 - groups

abbrev pub most : (st : State) → Led st → ℕ
most (number want v w) led = most_in want led.groups
most (frame t n h) led = n - length h
most (refused r) led = 0
most ended led = 0

-- the seconds of an entry that is begun are a number of a log
abbrev pub Behind : Want → Type 0
Behind version = Unit {0}
Behind seconds = Unit {0}
Behind (size t) = t ≤ greatest

abbrev pub Small : State → Type 0
Small (number want v w) = Behind want
Small (frame t n h) = t ≤ greatest
Small (refused r) = Unit {0}
Small ended = Unit {0}
