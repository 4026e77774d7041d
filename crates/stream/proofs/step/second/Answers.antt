-- `stream::step::second` meets its contract. Assumes nothing.
use Rattle.std.proofs.Common.{sym, ◌∙◌, arith}
use Rattle.stream.proofs.Held.{second_of_input, second_of_held}
use Rattle.stream.proofs.step.second.Goals as goal

pub returns-then-len-lt2 : goal.returns-then-len-lt2
returns-then-len-lt2 c =
    let a = c.args in
    c.byte_at.ensures ∙ sym (second_of_input a.places.now a.held.start a.held.end a.input.now (omega arith) (omega arith))

pub returns : goal.returns
returns c =
    let a = c.args in
    sym (second_of_held a.places.now a.held.start a.held.end a.input.now (omega arith) (omega arith))
