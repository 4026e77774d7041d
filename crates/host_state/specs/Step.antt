-- One call of the stream over the host's state.
-- Assumes nothing.
use Rattle.std.specs.Prelude.{◌≡◌, Bool, true, false, ◌&&◌, not, List, ℕ, ◌-◌, length}
use Rattle.base.specs.Parts.{part}
use Rattle.reading.specs.Reading.{limit}
use Rattle.reading.specs.Positions.{is_within}
use Rattle.refusals.specs.declared.Refusal.TheVariants.{BadState}
use Rattle.stream.specs.Step.{Steps}
use Rattle.stream.specs.declared.step.Moved.{Moved}
use Rattle.stream.specs.declared.step.Replied.{Replied}
use Rattle.stream.specs.declared.step.Reply.TheVariants.{Refused}
use Rattle.numbered.specs.Step.{StepsAt}
use Rattle.numbered.specs.declared.Advanced.{Advanced}
use Rattle.numbered.specs.declared.Answered.{Answered}
use Rattle.host_state.specs.State.{position_at, start_in, end_in, places_in, position_in, has_size, is_state}

-- ---- Over its places alone

abbrev pub moved_in : List ℕ → Replied → Moved
moved_in state r = record { start = start_in state; end = end_in state; taken = r.taken; reply = r.reply }

-- a state of a wrong length is refused and stays; else the call is that over its places, and the bytes of its position stay
pub record PlacesStep (before input after : List ℕ) (r : Replied) : Type 0 where
  pub refuses : has_size before ≡ false → (r ≡ record { taken = 0; reply = Refused BadState }) × (after ≡ before)
  pub same : length after ≡ length before
  pub steps : has_size before ≡ true → Steps limit (places_in before) (start_in before) (end_in before) input (places_in after) (moved_in after r)
  pub stands : has_size before ≡ true → part after position_at 8 ≡ part before position_at 8

-- ---- With its position

-- all of the input can be numbered
unfoldable pub can_number : List ℕ → List ℕ → Bool
can_number state input = is_within (position_in state) (end_in state - start_in state) (length input)

-- a valid state that is refused with 12
unfoldable pub is_beyond : List ℕ → List ℕ → Bool
is_beyond state input = is_state state && not (can_number state input)

abbrev pub advanced_in : List ℕ → Answered → Advanced
advanced_in state r = record {
  moved = record { start = start_in state; end = end_in state; taken = r.taken; reply = r.reply };
  position = position_in state;
}

-- a state of a wrong length is refused and stays, and there is no position to speak of; else the call is that over its places, with its position, and its
-- answer began where the state stood before it. What is refused with 8 or 12 stays, byte for byte
pub record StateSteps (before input after : List ℕ) (r : Answered) : Type 0 where
  pub refuses : has_size before ≡ false → (r ≡ record { position = 0; taken = 0; reply = Refused BadState }) × (after ≡ before)
  pub same : length after ≡ length before
  pub steps : has_size before ≡ true
      → StepsAt limit (places_in before) (start_in before) (end_in before) (position_in before) input (places_in after) (advanced_in after r)
  pub began : has_size before ≡ true → r.position ≡ position_in before
  pub kept : (is_state before && can_number before input) ≡ false → after ≡ before
