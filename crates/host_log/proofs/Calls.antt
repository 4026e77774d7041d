-- The promises of the host's log entries leave one answer, and one of all that is seen of the state.
-- Assumes nothing.
use mathlib.Core.Path.{◌≡◌, sym, ap, ◌∙◌}
use mathlib.Core.List.{List}
use Prim.Native.Nat.{ℕ}
use lib.Dec.{lit<}
use Rattle.host_answer.specs.Answer.{packed, answer_row}
use Rattle.host_answer.proofs.Packing.{Whole, unpack}
use Rattle.host_answer.proofs.Fits.{Fits}
use Rattle.host_answer.proofs.Numbers.{refusal_whole}
use Rattle.log_reader.specs.Seen.{frame_among}
use Rattle.log_reader.specs.declared.Place.TheVariants.{InPiece, InHeld}
use Rattle.log_reader.specs.declared.Answer.{Answer}
use Rattle.log_reader.specs.declared.Answer.TheVariants.{More, Entry, Refused}
use Rattle.log_reader.specs.Reader.{Ending}
use Rattle.host_log.specs.State.{places_in, is_state}
use Rattle.host_log.specs.Calls.{ending_row}
use Rattle.host_log.specs.Answer.{answer_of, answer_log, seconds_by, Calls, EndCalls}
use Rattle.host_log.specs.Seen.{Seen, seen, frame_by, SeenCall, seen_call}
use Rattle.host_log.proofs.Fits.{log_fits}
use Rattle.host_log.proofs.Unique.{one_step, one_end}

pub whole : (t : ℕ) (a : Answer) → Fits (answer_of t a) → Whole (answer_of t a)
unfolding answer_of
whole t More f = record { number = lit< tt; taken = f.0; in_state = lit< tt; at = f.1; len = f.2; first = lit< tt; second = lit< tt }
whole t (Entry s (InPiece at n)) f = record { number = lit< tt; taken = f.0; in_state = lit< tt; at = f.1; len = f.2; first = lit< tt; second = lit< tt }
whole t (Entry s (InHeld n)) f = record { number = lit< tt; taken = f.0; in_state = lit< tt; at = f.1; len = f.2; first = lit< tt; second = lit< tt }
whole t (Refused r) f = refusal_whole t r f.0

frame_by_lem : (t : ℕ) (a : Answer) (state : List ℕ) → Fits (answer_of t a) → frame_by (packed (answer_of t a)) state ≡ frame_among (places_in state) a
unfolding answer_of frame_by
frame_by_lem t More state f = rw (unpack _ (whole t More f))
frame_by_lem t (Entry s (InPiece at n)) state f = rw (unpack _ (whole t (Entry s (InPiece at n)) f))
frame_by_lem t (Entry s (InHeld n)) state f = rw (unpack _ (whole t (Entry s (InHeld n)) f))
frame_by_lem t (Refused r) state f = rw (unpack _ (whole t (Refused r) f))

-- a function of what the call over the state leaves one of
seen_of : ℕ → Seen → SeenCall
seen_of lent s = record {
  answer = packed (answer_log s.replied);
  seconds = seconds_by s.replied.answer lent;
  head = s.head;
  held = s.held;
  frame = s.frame;
  refused = s.refused;
}

call_is : {a b t u : ℕ} {h k f g r : List ℕ} → a ≡ b → t ≡ u → f ≡ g
    → ◌≡◌ {A = SeenCall} (record { answer = a; seconds = t; head = h; held = k; frame = f; refused = r })
    (record { answer = b; seconds = u; head = h; held = k; frame = g; refused = r })
call_is p q s = cc

seen_call_lem : {before input after : List ℕ} {lent given r : ℕ} (c : Calls before input lent after given r)
    → seen_call (is_state before) after given r ≡ seen_of lent (seen (is_state before) after c.replied)
unfolding seen_of
seen_call_lem {after = after} c =
    call_is c.packs c.gives
    (ap (λ (n : ℕ). frame_by n after) c.packs ∙ frame_by_lem c.replied.taken c.replied.answer after (log_fits c.steps))

pub one_log_call : (before input : List ℕ) (lent : ℕ) {after after' : List ℕ} {given given' r r' : ℕ}
    → Calls before input lent after given r → Calls before input lent after' given' r'
    → seen_call (is_state before) after given r ≡ seen_call (is_state before) after' given' r'
one_log_call before input lent x y = seen_call_lem x ∙ ap (seen_of lent) (one_step before input x.steps y.steps) ∙ sym (seen_call_lem y)

pub one_log_end : (before : List ℕ) {after after' : List ℕ} {r r' : ℕ} → EndCalls before after r → EndCalls before after' r'
    → ◌≡◌ {A = ℕ × List ℕ} (r, after) (r', after')
one_log_end before {after} {after'} x y =
    ap (λ (n : ℕ). (n, after)) x.packs
    ∙ ap (λ (e : Ending × List ℕ). (packed (answer_row (ending_row e.0)), e.1)) (one_end before x.ends y.ends)
    ∙ sym (ap (λ (n : ℕ). (n, after')) y.packs)
