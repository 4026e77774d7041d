-- The promise of a call of the stream leaves one answer, and one of all that is seen of the state.
-- Assumes nothing.
use mathlib.Core.Path.{◌≡◌, refl, sym, ap, ◌∙◌}
use mathlib.Core.List.{List, ◌++◌}
use Prim.Native.Nat.{ℕ, ◌+◌, ◌≤◌}
use lib.Dec.{eqb, lit<}
use lib.ListN.{set}
use Rattle.base.specs.Choice.{when◌then◌else◌}
use Rattle.reading.specs.Reading.{limit}
use Rattle.stream.specs.Seen.{unplaced, frame_among, if_refused, seen}
use Rattle.numbered.specs.Seen.{if_beyond, seen_at}
use Rattle.stream.specs.declared.step.Place.TheVariants.{InPiece, InHeld}
use Rattle.stream.specs.declared.step.Reply.{Reply}
use Rattle.stream.specs.declared.step.Reply.TheVariants.{More, Frame, Refused}
use Rattle.host_state.specs.State.{places_in, position_in, held_by}
use Rattle.host_state.specs.Seen.{SeenState, seen_state}
use Rattle.host_state.proofs.States.{part_of_places}
use Rattle.host_state.proofs.Unique.{one_state_step}
use Rattle.host_answer.specs.declared.answer.HostAnswer.{HostAnswer}
use Rattle.host_answer.specs.Answer.{eight_bytes, packed}
use Rattle.host_answer.specs.Reply.{answer_reply, says_where, told, Calls}
use Rattle.host_answer.specs.Seen.{SeenCall, seen_call}
use Rattle.host_answer.proofs.Packing.{Whole, unpack}
use Rattle.host_answer.proofs.Fits.{Fits, call_fits, frame_inside}
use Rattle.host_answer.proofs.Numbers.{refusal_whole}

pub reply_whole : (t : ℕ) (a : Reply) → Fits (answer_reply t a) → Whole (answer_reply t a)
unfolding answer_reply
reply_whole t More f = record { number = lit< tt; taken = f.0; in_state = lit< tt; at = f.1; len = f.2; first = lit< tt; second = lit< tt }
reply_whole t (Frame (InPiece n)) f = record { number = lit< tt; taken = f.0; in_state = lit< tt; at = f.1; len = f.2; first = lit< tt; second = lit< tt }
reply_whole t (Frame (InHeld p n)) f = record { number = lit< tt; taken = f.0; in_state = lit< tt; at = f.1; len = f.2; first = lit< tt; second = lit< tt }
reply_whole t (Refused r) f = refusal_whole t r f.0

-- the eight bytes with 0 for an offset in the state
abbrev offsetless : HostAnswer → List ℕ
offsetless t = when eqb t.in_state 1 then set (eight_bytes t) 3 0 else eight_bytes t

by_cases : (t : ℕ) (a : Reply) (state out : List ℕ) → Fits (answer_reply t a) → ((at n : ℕ) → a ≡ Frame (InHeld at n) → at + n ≤ limit)
    → seen_call (packed (answer_reply t a)) state out
    ≡ record {
      answer = offsetless (answer_reply t (unplaced a));
      frame = frame_among a (places_in state);
      held = held_by state;
      position = position_in state;
      refused = if_refused a state ++ if_beyond a state;
      told = out;
    }
unfolding answer_reply seen_call unplaced frame_among if_refused if_beyond
by_cases t More state out f inside = rw (unpack _ (reply_whole t More f))
by_cases t (Frame (InPiece n)) state out f inside = rw (unpack _ (reply_whole t (Frame (InPiece n)) f))
by_cases t (Frame (InHeld p n)) state out f inside = rw (unpack _ (reply_whole t (Frame (InHeld p n)) f), part_of_places state p n (inside p n refl))
by_cases t (Refused r) state out f inside = rw (unpack _ (reply_whole t (Refused r) f))

-- the slice, by the reply but for an offset
told_unplaced : (a : Reply) (began : ℕ) (out : List ℕ) → told a began out ≡ told (unplaced a) began out
unfolding told says_where unplaced
told_unplaced More began out = refl
told_unplaced (Frame p) began out = refl
told_unplaced (Refused r) began out = refl

-- a function of what the call over the state leaves one of
abbrev seen_of : List ℕ → SeenState → SeenCall
seen_of out s = record {
  answer = offsetless (answer_reply s.call.call.taken s.call.call.reply);
  frame = s.call.call.frame;
  held = s.call.call.held;
  position = s.call.position;
  refused = s.refused;
  told = told s.call.call.reply s.began out;
}

seen_call_lem : {before input out after outAfter : List ℕ} {r : ℕ} (c : Calls before input out after outAfter r)
    → seen_call r after outAfter ≡ seen_of out (seen_state c.answered after)
unfolding seen seen_at
seen_call_lem {out = out} {after = after} {outAfter = outAfter} c =
    ap (λ (n : ℕ). seen_call n after outAfter) c.packs
    ∙ ap (seen_call (packed (answer_reply c.answered.taken c.answered.reply)) after) (c.tells ∙ told_unplaced c.answered.reply c.answered.position out)
    ∙ by_cases c.answered.taken c.answered.reply after _ (call_fits c.steps) (frame_inside c.steps)

pub one_call : (before input out : List ℕ) {after after' outAfter outAfter' : List ℕ} {r r' : ℕ} → Calls before input out after outAfter r
    → Calls before input out after' outAfter' r' → seen_call r after outAfter ≡ seen_call r' after' outAfter'
one_call before input out x y = seen_call_lem x ∙ ap (seen_of out) (one_state_step before input x.steps y.steps) ∙ sym (seen_call_lem y)
