-- `stream::step::step_held` meets its contract. Assumes nothing.
use Rattle.std.proofs.Common.{arith}
use Rattle.stream.proofs.Moved.{held_waits, held_fault, held_check}
use Rattle.stream.proofs.step.step_held.Goals as goal

pub returns-then-n-lacks : goal.returns-then-n-lacks
returns-then-n-lacks c =
    held_waits (record { four = c.requires.0; some = c.requires.1.0; inside = c.requires.1.1; size = c.held_reach-size.ensures.size })
    (omega arith)
    c.append-span.ensures

pub returns-then-size-lt3 : goal.returns-then-size-lt3
returns-then-size-lt3 c =
    held_fault
    (record {
      sized = record { four = c.requires.0; some = c.requires.1.0; inside = c.requires.1.1; size = c.held_reach-size.ensures.size };
      lacked = omega arith;
      enough = c.if-n-lacks.false;
      appended = c.append-span-2.ensures;
    })
    c.if-size-lt3.true
    c.fault-refusal.ensures

pub returns : goal.returns
returns c =
    held_check
    (record {
      sized = record { four = c.requires.0; some = c.requires.1.0; inside = c.requires.1.1; size = c.held_reach-size.ensures.size };
      lacked = omega arith;
      enough = c.if-n-lacks.false;
      appended = c.append-span-2.ensures;
    })
    c.checked-check.result
    c.if-size-lt3.false
    c.checked-check.ensures
    c.dropped-gone.ensures
    c.reply_for-reply.ensures
