use mathlib.Core.Path.{refl}
use native.Mathlib.Omega.{arith}
use lib.ListN.{length, get_or}
use Rattle.log_reader.proofs.Turns.{Taken, number_state, going_stop, going_on, going_entry, going_end}
use Rattle.log_reader.proofs.Pieces.{fresh_begun, going_piece, taken_number, taken_frame}
use Rattle.log_reader.proofs.run.run.Goals as goal
use Rattle.log_reader.proofs.run.run.Goals.{Joined-at, in-Number, in-Frame+else-held-eq0, else-held-eq0-via-then-held-eq0+else-size-input as whole, else-held-eq0-via-else-held-eq0 as begun}

pub returns-in-Refused : goal.returns-in-Refused
returns-in-Refused c = going_stop c.loop-i.invariant c.loop-i-test.true (rw c.in-Refused.is refl) c.refuse.ensures

pub returns-in-Ended : goal.returns-in-Ended
returns-in-Ended c = going_stop c.loop-i.invariant c.loop-i-test.true (rw c.in-Ended.is refl) c.refuse-in-Ended.ensures

pub feed_number-requires : goal.feed_number-requires
feed_number-requires c = number_state c.loop-i.places c.loop-i.at 0 c.loop-i.invariant.state c.in-Number.is

pub in_piece-requires : goal.in_piece-requires
in_piece-requires c =
    let b = fresh_begun c.loop-i.places c.in-Frame.seconds c.in-Frame.size (rw c.if-held-eq0.true at c.in-Frame.is) c.loop-i.invariant.state in
    (b.low, (b.high, omega arith))

pub returns-then-size-input : goal.returns-then-size-input
returns-then-size-input c =
    going_piece c.loop-i.places c.in-Frame.seconds c.in-Frame.size (rw c.if-held-eq0.true at c.in-Frame.is) c.loop-i.invariant.state c.loop-i.invariant c.in_piece.ensures

-- what one byte makes of the reader
took : (c : Joined-at)
    → Taken (length c.args.input.now) c.loop-i.i c.loop-i.places c.loop-i.at (get_or c.args.input.now c.loop-i.i 0) c.match-at.places c.match-at.turn
took c =
    let l = c.loop-i in
    let s = c.args.input.now in
    elim c.match-at.branch [
      | in-Number w ↦ rw (w.places-is, w.turn-is) (taken_number (length s) l.i l.places l.at (get_or s l.i 0) l.invariant.state w.in-Number.is w.feed_number.ensures)
      | in-Frame+else-held-eq0 w ↦
          rw (w.places-is, w.turn-is)
          (taken_frame (length s) l.i l.places l.at (get_or s l.i 0) l.invariant.state w.in-Frame.is
          (λ z. elim w.else-held-eq0.branch [ whole u ↦ omega (arith, u.if-size-input.false, l.invariant.inside) | begun u ↦ absurd (u.if-held-eq0.false z) ])
          w.feed_frame-turn.ensures)
    ]

pub returns-in-Entry : goal.returns-in-Entry
returns-in-Entry c =
    going_entry c.loop-i.invariant c.loop-i-test.true (rw c.in-Entry.is at (took (goal.at.returns-in-Entry c).Joined-at)) c.number_of.ensures

pub loop-i-preserved : goal.loop-i-preserved
loop-i-preserved c = going_on c.loop-i.invariant c.loop-i-test.true (rw c.in-On.is at (took (goal.at.loop-i-preserved c).Joined-at))

pub returns : goal.returns
returns c = going_end c.loop-i.invariant (omega arith) (omega arith) c.answer_at.ensures
