-- What one call of the listing shows, and that it is the listing's definition.
-- Assumes nothing.
use Rattle.std.specs.Prelude.{Result, Ok, Err, ℕ, ◌+◌, ◌-◌, ◌≤◌, ◌≡◌, Bool, true, false, List, length}
use Rattle.base.specs.Parts.{pasted}
use Rattle.reading.specs.Call.{call}
use Rattle.reading.specs.History.{answered}
use Rattle.refusals.specs.declared.Refusal.{Refusal}
use Rattle.refusals.specs.declared.Refusal.TheVariants.{BadState, PositionRange}
use Rattle.stream.specs.Places.{held_in}
use Rattle.stream.specs.Step.{is_span, Steps}
use Rattle.lines.specs.Put.{Puts}
use Rattle.listing.specs.Numbering.{Numbering, text_of, room_for, is_countable}
use Rattle.listing.specs.Listing.{Listing, list_of}
use Rattle.listing.specs.declared.Turn.{Turn}
use Rattle.listing.specs.declared.Listed.{Listed}
use Rattle.listing.specs.declared.Status.{Status}
use Rattle.listing.specs.declared.Status.TheVariants as status

-- one call of the stream, and the line of its answer, if any, at a place with room for the longest
pub record Turns (before : List ℕ) (start end : ℕ) (n : Numbering) (input out : List ℕ) (at : ℕ) (places outAfter : List ℕ) (r : Turn) : Type 0 where
  pub steps : Steps (length before) before start end input places r.moved
  pub puts : Puts out at (text_of n (answered (call (length before) (held_in before start end) input).answer)) outAfter r.at
  pub short : r.at ≤ at + room_for n

abbrev pub status_of : Bool → Status
status_of true = status.More
status_of false = status.Full

-- a buffer filled with the listing l: all but where the held bytes stand is l's, and the buffer behind its lines is kept
pub record Fills (m : ℕ) (l : Listing) (input out places outAfter : List ℕ) (r : Listed) : Type 0 where
  pub ordered : r.start ≤ r.end
  pub inside : r.end ≤ m
  pub held_is : held_in places r.start r.end ≡ l.held
  pub taken_is : r.taken ≡ l.taken
  pub status_is : r.status ≡ status_of l.asks
  pub written_is : r.written ≡ length l.lines
  pub next_is : r.numbering ≡ l.next
  pub taken_in : r.taken ≤ length input
  pub written_in : r.written ≤ length out
  pub buffer : outAfter ≡ pasted out 0 l.lines

-- first what is not a valid state is refused, and then a stream whose bytes can't be numbered: nothing is taken, written or changed; else the buffer is
-- filled with as many lines as there is room for. The limit of a frame is the number of places
pub record Lists (before : List ℕ) (start end : ℕ) (n : Numbering) (input out places outAfter : List ℕ) (r : Result Listed Refusal) : Type 0 where
  pub refuses : is_span (length before) start end ≡ false → (r ≡ Err BadState) × ((places ≡ before) × (outAfter ≡ out))
  pub beyond : is_span (length before) start end ≡ true → is_countable n (end - start) (length input) ≡ false
      → (r ≡ Err PositionRange) × ((places ≡ before) × (outAfter ≡ out))
  pub fills : is_span (length before) start end ≡ true → is_countable n (end - start) (length input) ≡ true
      → (l : Listed) × ((r ≡ Ok l)
      × Fills (length before) (list_of (length before) n (held_in before start end) input (length out)) input out places outAfter l)
