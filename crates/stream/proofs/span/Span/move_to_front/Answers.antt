-- `stream::span::Span::move_to_front` meets its contract. Assumes nothing.
use Rattle.std.proofs.Common.{ℕ, ◌+◌, List, get_or, ap, ◌∙◌, arith}
use lib.ListN.{set}
use Rattle.stream.proofs.Held.{front_more}
use Rattle.stream.proofs.span.Span.move_to_front.Goals as goal

pub loop-i-preserved : goal.loop-i-preserved
loop-i-preserved c =
    let a = c.args in
    let i = c.loop-i.i in
    ap (λ (l : List ℕ). set l i (get_or l (a.self.start + i) 0)) c.loop-i.invariant ∙ front_more a.places.now a.self.start i (omega arith)
