-- Every count that an entry answers fits a byte, and what fits is answered as it is.
-- Assumes nothing.
use mathlib.Core.Path.{◌≡◌, refl, ap, ◌∙◌}
use mathlib.Core.List.{List, [], ◌∷◌}
use Prim.Native.Nat.{ℕ, ◌+◌, ◌≤◌, ◌<◌}
use native.Mathlib.Nat.{mod-eq_of_lt}
use native.Mathlib.Omega.{arith}
use lib.Dec.{leb}
use lib.ListN.{length}
use Rattle.base.proofs.Tests.{by_test}
use Rattle.refusals.specs.Row.{row_of}
use Rattle.refusals.specs.declared.Refusal.{Refusal}
use Rattle.refusals.specs.declared.Refusal.TheVariants.{BufferOverflow}
use Rattle.writing.specs.Writing.{Image, bytes, refused, write_of}
use Rattle.reading.specs.Reading.{limit}
use Rattle.stream.specs.declared.step.Place.{Place}
use Rattle.stream.specs.declared.step.Place.TheVariants.{InPiece, InHeld}
use Rattle.stream.specs.declared.step.Reply.{Reply}
use Rattle.stream.specs.declared.step.Reply.TheVariants.{More, Frame, Refused}
use Rattle.numbered.specs.declared.Answered.{Answered}
use Rattle.stream.proofs.Bounds.{taken_bound, piece_bound, place_bound}
use Rattle.host_state.specs.State.{is_state}
use Rattle.host_state.specs.Step.{can_number, StateSteps}
use Rattle.host_state.proofs.Laws.{invalid_refused, beyond_refused, as_steps_in}
use Rattle.host_answer.specs.declared.answer.HostAnswer.{HostAnswer}
use Rattle.host_answer.specs.Answer.{packed, answer_row, answers, in_bytes}
use Rattle.host_answer.specs.Reply.{answer_frame, answer_reply, answer_call}
use Rattle.host_answer.proofs.Rows.{row_refusal}

-- each count fits a byte
abbrev pub Fits : HostAnswer → Type 0
Fits t = (t.taken < 256) × (t.at < 256) × (t.len < 256)

pub in_bytes_lem : (t : HostAnswer) → Fits t → in_bytes t ≡ t
in_bytes_lem t f = rw (mod-eq_of_lt f.0, mod-eq_of_lt f.1, mod-eq_of_lt f.2)

-- ---- Rows

pub count_fits : (n : ℕ) → n < 256 → Fits (answer_row (0 ∷ n ∷ []))
unfolding answer_row
count_fits n few = omega arith

pub refusal_fits : (r : Refusal) → Fits (answer_row (row_of r))
refusal_fits r = rw (row_refusal r) (omega arith)

-- what there is to write has less than 256 bytes, or is refused
abbrev pub Short : Image → Type 0
Short (bytes bs) = length bs < 256
Short (refused r) = Unit {0}

pub write_fits : (image : Image) (buffer : List ℕ) → Short image → Fits (answer_row (write_of image buffer).0)
unfolding write_of
write_fits (bytes bs) buffer few =
    by_test (leb (length bs) (length buffer)) (λ t. simp t (count_fits (length bs) few)) (λ t. simp t (refusal_fits BufferOverflow))
write_fits (refused r) buffer few = refusal_fits r

-- an entry's answer follows from what the function below it says
pub answered : {row after : List ℕ} {x : List ℕ × List ℕ} {r : ℕ} → (row, after) ≡ x → Fits (answer_row x.0) → r ≡ packed (in_bytes (answer_row row))
    → (r, after) ≡ answers x
answered {row} {after} {x} e fits p =
    ap (λ (n : ℕ). (n, after)) p
    ∙ ap (λ (y : List ℕ × List ℕ). (packed (in_bytes (answer_row y.0)), y.1)) e
    ∙ ap (λ (t : HostAnswer). (packed t, x.1)) (in_bytes_lem (answer_row x.0) fits)

-- ---- A call of the stream: no count is past the limit

place_fits : (t : ℕ) (p : Place) → t ≤ limit → ((n : ℕ) → Frame p ≡ Frame (InPiece n) → n ≤ limit) → ((at n : ℕ) → Frame p ≡ Frame (InHeld at n) → at + n ≤ limit)
    → Fits (answer_frame t p)
place_fits t (InPiece n) few piece held = omega (arith, piece n refl)
place_fits t (InHeld at n) few piece held = omega (arith, held at n refl)

reply_fits : (t : ℕ) (a : Reply) → t ≤ limit → ((n : ℕ) → a ≡ Frame (InPiece n) → n ≤ limit) → ((at n : ℕ) → a ≡ Frame (InHeld at n) → at + n ≤ limit)
    → Fits (answer_reply t a)
unfolding answer_reply
reply_fits t More few piece held = omega arith
reply_fits t (Frame p) few piece held = place_fits t p few piece held
reply_fits t (Refused r) few piece held = omega arith

refused_fits : {x : Refusal} (r : Answered) → r.taken ≡ 0 → r.reply ≡ Refused x → Fits (answer_call r)
unfolding answer_reply
refused_fits {x} r t e = rw (t, e) (omega arith)

pub call_fits : {before input after : List ℕ} {r : Answered} → StateSteps before input after r → Fits (answer_call r)
call_fits {before} {input} {after} {r} call =
    by_test (is_state before)
    (λ good.
    by_test (can_number before input)
    (λ can.
    let steps = as_steps_in call good can in
    reply_fits r.taken r.reply (taken_bound steps).1 (λ n e. (piece_bound steps n e).1) (place_bound steps))
    (λ far. let x = beyond_refused call good far in refused_fits r x.0 x.1))
    (λ bad. let x = invalid_refused call bad in refused_fits r x.0 x.1)

-- a frame in the state lies among its places
pub frame_inside : {before input after : List ℕ} {r : Answered} → StateSteps before input after r → (at n : ℕ) → r.reply ≡ Frame (InHeld at n) → at + n ≤ limit
frame_inside {before} {input} {after} {r} call at n e =
    by_test (is_state before)
    (λ good.
    by_test (can_number before input)
    (λ can. place_bound (as_steps_in call good can) at n e)
    (λ far. absurd (let x = (beyond_refused call good far).1 in let z : ◌≡◌ {A = ℕ} 0 1 = cc in omega arith)))
    (λ bad. absurd (let x = (invalid_refused call bad).1 in let z : ◌≡◌ {A = ℕ} 0 1 = cc in omega arith))
