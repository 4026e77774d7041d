-- One call of the stream with its position (RULES 18): the call is that of crate `stream`, and the position moves by what its answer dropped.
-- Assumes nothing.
use Rattle.std.specs.Prelude.{ℕ, ◌-◌, ◌≡◌, true, false, List, length}
use Rattle.refusals.specs.declared.Refusal.{Refusal}
use Rattle.refusals.specs.declared.Refusal.TheVariants.{BadState, PositionRange}
use Rattle.reading.specs.Call.{call}
use Rattle.reading.specs.History.{answered}
use Rattle.reading.specs.Positions.{behind, is_within}
use Rattle.stream.specs.Places.{held_in}
use Rattle.stream.specs.Step.{is_span, Moves}
use Rattle.stream.specs.declared.step.Reply.TheVariants.{Refused}
use Rattle.numbered.specs.declared.Advanced.{Advanced}

-- a refusal that takes and changes nothing
abbrev pub stays : ℕ → ℕ → ℕ → Refusal → Advanced
stays start end position r = record { moved = record { start = start; end = end; taken = 0; reply = Refused r }; position = position }

-- first what is not a valid state is refused, and stays, byte for byte; then a stream whose bytes can't be numbered, in the same way; else the call
-- moves the state, and the position is that behind its answer, if it gives one
pub record StepsAt (m : ℕ) (before : List ℕ) (start end position : ℕ) (input after : List ℕ) (r : Advanced) : Type 0 where
  pub same : length after ≡ length before
  pub refuses : is_span m start end ≡ false → (r ≡ stays start end position BadState) × (after ≡ before)
  pub beyond : is_span m start end ≡ true → is_within position (end - start) (length input) ≡ false
      → (r ≡ stays start end position PositionRange) × (after ≡ before)
  pub moves : is_span m start end ≡ true → is_within position (end - start) (length input) ≡ true → Moves m before start end input after r.moved
  pub counts : is_span m start end ≡ true → is_within position (end - start) (length input) ≡ true
      → r.position ≡ behind position (answered (call m (held_in before start end) input).answer)
