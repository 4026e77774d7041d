-- `stream::span::Span::append` meets its contract. Assumes nothing.
use Rattle.std.proofs.Common.{ℕ, ◌+◌, List, ◌++◌, take, ap, ◌∙◌, arith}
use Rattle.stream.specs.Places.{held_in}
use Rattle.stream.proofs.Held.{held_paste}
use Rattle.stream.proofs.span.Span.append.Goals as goal

pub returns : goal.returns
returns c =
    let a = c.args in
    let room = c.make_room-room in
    record {
      ordered = omega arith;
      inside = room.ensures.room;
      held = ap (λ (l : List ℕ). held_in l room.result.start (room.result.end + a.count)) c.bring.ensures
          ∙ held_paste room.new.places room.result.start room.result.end room.ensures.ordered a.input.now a.count (omega arith) (omega arith)
          ∙ ap (λ (l : List ℕ). l ++ take a.count a.input.now) room.ensures.kept;
    }
