-- What the program promises of its blocks, of how a comparison ends, and of its status.
-- Assumes nothing.
use Rattle.std.specs.Prelude.{Option, None, Some, Result, Ok, Err, ℕ, ◌-◌, ◌≤◌, ◌<◌, ◌≡◌, Bool, true, false, List, eqb, length, take}
use Rattle.base.specs.Choice.{when◌then◌else◌}
use Rattle.base.specs.Parts.{part}
use Rattle.reading.specs.Reading.{limit}
use Rattle.comparing.specs.declared.Wants.{Wants}
use Rattle.comparing.specs.declared.Wants.TheVariants.{Left, Right, Room, Nothing, Refused}
use Rattle.program.specs.declared.argument.Asked.{Asked}
use Rattle.program.specs.declared.argument.Asked.TheVariants.{Input, File, Help, Version, Failed}
use Rattle.program.specs.declared.argument.Asked.TheVariants as asked
use Rattle.diff_io.specs.declared.Found.{Found}
use Rattle.diff_io.specs.declared.Found.TheVariants.{Same, Other}
use Rattle.diff_io.specs.declared.Stopped.{Stopped}
use Rattle.diff_io.specs.declared.Stopped.TheVariants.{Uncounted}
use Rattle.diff_io.specs.declared.Fed.{Fed}

-- the unread bytes of an upload stand in its block from one place up to another
pub record Sound (size from to : ℕ) : Type 0 where
  pub ordered : from ≤ to
  pub inside : to ≤ size

-- where more of it is asked for they are fewer than a frame may have, and a block has as many places as that: so there is room behind them
pub record Short (size from to : ℕ) : Type 0 where
  pub sound : Sound size from to
  pub few : to - from < limit
  pub room : limit ≤ size

-- the unread bytes are at the front, and what came stands behind them; where nothing did, the upload has ended
pub record Fills (before : List ℕ) (from to : ℕ) (after : List ℕ) (r : Fed) : Type 0 where
  pub first : r.from ≡ 0
  pub kept : take (to - from) after ≡ part before from (to - from)
  pub behind : to - from ≤ r.to
  pub inside : r.to ≤ length before
  pub ends_is : r.ends ≡ eqb r.to (to - from)

-- .. where that is asked for; else all is as it was
pub record Feeds (wanted : Bool) (before : List ℕ) (from to : ℕ) (ends : Bool) (after : List ℕ) (r : Fed) : Type 0 where
  pub sound : Sound (length before) r.from r.to
  pub stays : wanted ≡ false → (r ≡ record { from = from; to = to; ends = ends }) × (after ≡ before)
  pub fills : wanted ≡ true → Fills before from to after r

-- what a whole text says that names so many differences
abbrev pub found_by : ℕ → Found
found_by differ = when eqb differ 0 then Same else Other

-- how a comparison ended that goes no further: one that asks for more bytes or for room goes on
abbrev pub ended_by : Wants → ℕ → Option (Result Found Stopped)
ended_by Left differ = None
ended_by Right differ = None
ended_by Room differ = None
ended_by Nothing differ = Some (Ok (found_by differ))
ended_by (Refused r) differ = Some (Err Uncounted)

-- as of diff(1): 0 no difference, 1 a difference, 2 trouble
abbrev pub status_of : Result Found Stopped → ℕ
status_of (Ok Same) = 0
status_of (Ok Other) = 1
status_of (Err stopped) = 2

-- 0 only where all of a text was written
abbrev pub status_printed : Bool → ℕ
status_printed all = when all then 0 else 2

-- an argument names an upload, or is none that can be read
abbrev pub is_upload : Asked → Bool
is_upload Input = true
is_upload (File name) = true
is_upload Help = false
is_upload Version = false
is_upload Failed = true
is_upload asked.Refused = false
