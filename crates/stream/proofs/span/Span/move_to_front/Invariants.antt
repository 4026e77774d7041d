-- `stream::span::Span::move_to_front` meets its contract. The invariant: i bytes are moved. Assumes nothing.
use Rattle.std.proofs.Common.{◌≡◌, drop}
use lib.Seq.{paste}
use Rattle.stream.proofs.span.Span.move_to_front.Given as goal

abbrev pub invariant-loop-i : goal.invariant-loop-i
invariant-loop-i l = l.places ≡ paste l.initial.places 0 (drop l.self.start l.initial.places) l.i
