-- Each public function's promise leaves one answer. `Post` is what the prover reads off the source's own `ensures`, so a weaker clause there breaks
-- its line here. Assumes nothing.
use Rattle.std.specs.Prelude.{Ok, Err}
use mathlib.Core.Path.{◌≡◌, refl, sym, ap, ap₂, ◌∙◌}
use mathlib.Core.Bool.{Bool, true}
use mathlib.Core.List.{List, []}
use Prim.Native.Nat.{ℕ}
use lib.ListN.{take}
use Rattle.base.proofs.Tests.{by_test}
use Rattle.base.proofs.Unique.{OneAnswer, OneAnswerOver, same}
use Rattle.refusals.proofs.Rows.{one_refusal, not_zero}
use Rattle.log_reader.specs.Seen as reader-seen
use Rattle.log_reader.specs.Seen.{held_by, frame_among}
use Rattle.log_reader.specs.declared.Reader.{Reader}
use Rattle.log_reader.specs.declared.Answered.{Answered}
use Rattle.log_reader.specs.Reader.{Ending}
use Rattle.log_reader.proofs.Known.{one_reader, one_run}
use Rattle.host_log.specs.declared.Replied.{Replied}
use Rattle.host_log.specs.State.{places_at, bytes_of, head_of, reader_in, places_in, state_of, is_state}
use Rattle.host_log.specs.Calls.{StateSteps, Moves, StateEnds, ending_row}
use Rattle.host_log.specs.Seen.{Seen, seen}
use Rattle.host_log.proofs.Again.{held_again, head_written}
use Rattle.host_log.proofs.is_state.Reads as is_state
use Rattle.host_log.proofs.step.Reads as step
use Rattle.host_log.proofs.end.Reads as end
use Rattle.host_log.proofs.reset.Reads as reset
use Rattle.host_log.proofs.answer.answer_log.Reads as answer-log
use Rattle.host_log.proofs.answer.answer_ending.Reads as answer-ending
use Rattle.host_log.proofs.answer.give_seconds.Reads as give-seconds

pub is_state_one : OneAnswer {Seen = Bool} is_state.Post (λ κs r s. r)
is_state_one κs a r r' s s' = same

-- ---- a call

all_seen : {r r' : Replied} {h h' k k' f f' : List ℕ} → r ≡ r' → h ≡ h' → k ≡ k' → f ≡ f'
    → ◌≡◌ {A = Seen} (record { replied = r; head = h; held = k; frame = f; refused = [] }) (record { replied = r'; head = h'; held = k'; frame = f'; refused = [] })
all_seen p q u v = cc

-- what is seen of the reader's call is all that is seen of the state
replied_by : Answered → Replied
replied_by a = record { taken = a.taken; answer = a.answer }

moves_seen : {before input after : List ℕ} {r : Replied} (m : Moves before input after r)
    → let s = reader-seen.seen true (places_in after) (record { reader = m.reader; taken = r.taken; answer = r.answer }) in
    seen true after r ≡ record { replied = replied_by s.answered; head = bytes_of (head_of s.answered.reader); held = s.held; frame = s.frame; refused = [] }
unfolding replied_by
moves_seen {after = after} m =
    all_seen refl (ap (take places_at) m.is ∙ head_written (places_in after) m.reader)
    (ap (λ (l : List ℕ). held_by (places_in after) (reader_in l)) m.is ∙ held_again (places_in after) m.reader m.runs.stands) refl

pub one_step : (before input : List ℕ) {after after' : List ℕ} {r r' : Replied} → StateSteps before input after r → StateSteps before input after' r'
    → seen (is_state before) after r ≡ seen (is_state before) after' r'
one_step before input {after} {after'} {r} {r'} x y =
    by_test (is_state before)
    (λ e.
    let m = x.moves e in
    let n = y.moves e in
    rw e
    (moves_seen m
    ∙ ap (λ (s : reader-seen.Seen). record { replied = replied_by s.answered; head = bytes_of (head_of s.answered.reader); held = s.held; frame = s.frame; refused = [] })
    (one_run m.runs n.runs)
    ∙ sym (moves_seen n)))
    (λ e.
    let a = x.refuses e in
    let b = y.refuses e in
    ap₂ (seen (is_state before)) (a.1 ∙ sym b.1) (a.0 ∙ sym b.0))

pub step_one : OneAnswerOver {Seen = Seen} step.Post (λ κs a r s. seen (is_state a.0.now) s.0.now r)
step_one κs a r r' s s' = one_step _ _

-- ---- the end and a reset: all of the state

pub one_end : (before : List ℕ) {after after' : List ℕ} {r r' : Ending} → StateEnds before after r → StateEnds before after' r'
    → ◌≡◌ {A = Ending × List ℕ} (r, after) (r', after')
one_end before {after} {after'} {r} {r'} x y =
    by_test (is_state before)
    (λ e.
    let a = x.ends e in
    let b = y.ends e in
    let reader_is = one_reader (places_in before) (places_in before) a.reader b.reader a.finishes.stands b.finishes.stands
    (a.finishes.finished ∙ sym b.finishes.finished) in
    ap₂ (λ (z : Ending) (l : List ℕ). (z, l)) (a.finishes.said ∙ sym b.finishes.said)
    (a.is ∙ ap (λ (s : Reader). state_of s (places_in before)) reader_is ∙ sym b.is))
    (λ e.
    let a = x.refuses e in
    let b = y.refuses e in
    ap₂ (λ (z : Ending) (l : List ℕ). (z, l)) (a.0 ∙ sym b.0) (a.1 ∙ sym b.1))

pub end_one : OneAnswer {Seen = Ending × List ℕ} end.Post (λ κs r s. (r, s.0.now))
end_one κs a r r' s s' = one_end _

-- an ending is known by its row
pub by_row : (v w : Ending) → ending_row v ≡ ending_row w → v ≡ w
unfolding ending_row
by_row (Ok u) (Ok v) e = refl
by_row (Ok u) (Err s) e = absurd (not_zero s (sym e))
by_row (Err r) (Ok u) e = absurd (not_zero r e)
by_row (Err r) (Err s) e = ap Err (one_refusal e)

pub reset_one : OneAnswer {Seen = Ending × List ℕ} reset.Post (λ κs r s. (r, s.0.now))
reset_one κs a r r' s s' p q =
    let e = p ∙ sym q in
    ap₂ (λ (z : Ending) (l : List ℕ). (z, l)) (by_row r r' (ap (λ (x : List ℕ × List ℕ). x.0) e)) (ap (λ (x : List ℕ × List ℕ). x.1) e)

-- ---- answers

pub answer_log_one : OneAnswer {Seen = ℕ} answer-log.Post (λ κs r s. r)
answer_log_one κs a r r' s s' = same

pub answer_ending_one : OneAnswer {Seen = ℕ} answer-ending.Post (λ κs r s. r)
answer_ending_one κs a r r' s s' = same

pub give_seconds_one : OneAnswer {Seen = ℕ} give-seconds.Post (λ κs r s. s.1.0.now)
give_seconds_one κs a r r' s s' = same
