-- What is kept between pieces of the input, what a piece leaves, and the status of a listing.
-- Assumes nothing.
use Rattle.std.specs.Prelude.{Option, None, Some, Result, Ok, Err, ℕ, ◌-◌, ◌≤◌, ◌<◌, ◌≡◌, Bool, true, false, List, ◌++◌, length}
use Rattle.reading.specs.Reading.{reading}
use Rattle.stream.specs.Places.{held_in}
use Rattle.listing.specs.Numbering.{Numbering, past}
use Rattle.refusals.specs.declared.Refusal.{Refusal}
use Rattle.listing.specs.declared.Listed.{Listed}
use Rattle.listing.specs.declared.Status.{Status}
use Rattle.listing.specs.declared.Status.TheVariants.{More, Full}
use Rattle.listing_io.specs.declared.State.{State}
use Rattle.listing_io.specs.declared.Stopped.{Stopped}
use Rattle.listing_io.specs.declared.Stopped.TheVariants.{Failed, Unnumbered}

-- what stands before the first line: nothing, or the position of the first byte
abbrev pub first_number : Bool → Numbering
first_number false = None
first_number true = Some 0

-- where the held bytes stand in their places: a valid state that asks for more
pub record Sound (places start end : ℕ) : Type 0 where
  pub four : 4 ≤ places
  pub ordered : start ≤ end
  pub inside : end ≤ places
  pub few : end - start < places

-- what becomes of a turn: a call that is refused has no numbers for its lines, and lines of which a call is answered are written or not
abbrev pub Becomes : Result Listed Refusal → Result Listed Stopped → Type 0
Becomes (Ok listed) (Ok l) = l ≡ listed
Becomes (Ok listed) (Err (Failed f)) = Unit {0}
Becomes (Ok listed) (Err Unnumbered) = ⊥
Becomes (Err refusal) (Ok l) = ⊥
Becomes (Err refusal) (Err (Failed f)) = ⊥
Becomes (Err refusal) (Err Unnumbered) = Unit {0}

-- a piece is done with once no line of it is to come, and then it leaves what the last turn did
abbrev pub left_by : Status → State → Option State
left_by More state = Some state
left_by Full state = None

-- what a piece leaves, all of it listed and written: the held bytes are the tail of those held before and then the piece (RULES 5), and the numbering
-- stands behind the answers to these (RULES 18)
pub record Leaves (before : List ℕ) (start end : ℕ) (n : Numbering) (piece places : List ℕ) (r : State) : Type 0 where
  pub sound : Sound (length before) r.start r.end
  pub tail_is : held_in places r.start r.end ≡ (reading (length before) (held_in before start end ++ piece)).tail
  pub number_is : r.numbering ≡ past n (reading (length before) (held_in before start end ++ piece)).answers

-- the status is 0 only where everything was read and written (RULES 13)
abbrev pub status_at : Result ℕ Stopped → ℕ
status_at (Ok held) = 0
status_at (Err stopped) = 1
