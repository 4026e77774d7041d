-- `stream::step::step_fresh` meets its contract. Assumes nothing.
use Rattle.stream.proofs.Moved.{fresh_of, fresh_waits, fresh_fault, fresh_check}
use Rattle.stream.proofs.step.step_fresh.Goals as goal

pub returns-then-n-size : goal.returns-then-n-size
returns-then-n-size c =
    fresh_waits (fresh_of c.requires c.reach-size.ensures.size c.byte_at.ensures c.byte_at-2.ensures) c.if-n-size.true c.bring.ensures

pub returns-then-size-lt3 : goal.returns-then-size-lt3
returns-then-size-lt3 c =
    fresh_fault
    (fresh_of c.requires c.reach-size.ensures.size c.byte_at.ensures c.byte_at-2.ensures)
    c.if-size-lt3.true
    c.if-n-size.false
    c.fault-refusal.ensures

pub returns : goal.returns
returns c =
    fresh_check
    (fresh_of c.requires c.reach-size.ensures.size c.byte_at.ensures c.byte_at-2.ensures)
    c.checked-check.result
    c.if-size-lt3.false
    c.if-n-size.false
    c.checked-check.ensures
    c.dropped-taken.ensures
    c.reply_for-reply.ensures
