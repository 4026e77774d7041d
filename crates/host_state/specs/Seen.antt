-- What the promise of a call over the state leaves one of. The one exception (RULES 15) is where held bytes stand in their places, and the bytes beside them.
-- Assumes nothing.
use Rattle.std.specs.Prelude.{ℕ, List, ◌++◌}
use Rattle.base.specs.Parts.{part}
use Rattle.stream.specs.Seen.{Seen, if_refused, seen}
use Rattle.stream.specs.declared.step.Replied.{Replied}
use Rattle.numbered.specs.Seen.{SeenAt, if_beyond, seen_at}
use Rattle.numbered.specs.declared.Answered.{Answered}
use Rattle.host_state.specs.State.{position_at, places_in}
use Rattle.host_state.specs.Step.{moved_in, advanced_in}

-- over its places alone: what is seen of the call, all of a state that is refused, and the bytes of the position
pub record SeenPlaces : Type 0 where
  pub call : Seen
  pub refused : List ℕ
  pub position : List ℕ

abbrev pub seen_places : Replied → List ℕ → SeenPlaces
seen_places r state = record {
  call = seen (moved_in state r) (places_in state);
  refused = if_refused r.reply state;
  position = part state position_at 8;
}

-- with its position: the same with where it stands, all of a state that is refused with 8 or 12, and where the answer began
pub record SeenState : Type 0 where
  pub call : SeenAt
  pub refused : List ℕ
  pub began : ℕ

abbrev pub seen_state : Answered → List ℕ → SeenState
seen_state r state = record {
  call = seen_at (advanced_in state r) (places_in state);
  refused = if_refused r.reply state ++ if_beyond r.reply state;
  began = r.position;
}
