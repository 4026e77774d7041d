-- What the promise of a call with its position leaves one of: all that it leaves of the call alone, the position, and of a stream that is refused with
-- 12 all of the state, as of a state that is refused with 8.
-- Assumes nothing.
use Rattle.std.specs.Prelude.{ℕ, List, [], ◌∷◌, eqb}
use Rattle.base.specs.Choice.{when◌then◌else◌}
use Rattle.refusals.specs.Row.{number_of}
use Rattle.refusals.specs.declared.Refusal.TheVariants.{PositionRange}
use Rattle.stream.specs.Seen.{Seen, seen}
use Rattle.stream.specs.declared.step.Reply.{Reply}
use Rattle.stream.specs.declared.step.Reply.TheVariants.{More, Frame, Refused}
use Rattle.numbered.specs.declared.Advanced.{Advanced}

pub record SeenAt : Type 0 where
  pub call : Seen
  pub position : ℕ
  pub beyond : List ℕ

unfoldable pub if_beyond : Reply → List ℕ → List ℕ
if_beyond More state = []
if_beyond (Frame p) state = []
if_beyond (Refused r) state = when eqb (number_of r) (number_of PositionRange) then state else []

unfoldable pub seen_at : Advanced → List ℕ → SeenAt
seen_at r places = record {
  call = seen r.moved places;
  position = r.position;
  beyond = if_beyond r.moved.reply (r.moved.start ∷ r.moved.end ∷ places);
}
