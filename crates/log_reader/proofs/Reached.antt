-- A reader that is a state is where some log leads to; and a call takes 71 bytes at most.
-- Assumes nothing.
use mathlib.Core.Path.{◌≡◌, refl, sym, ap, ◌∙◌}
use mathlib.Core.Logic.{⊎_elim}
use mathlib.Core.Bool.{true, ◌&&◌}
use mathlib.Core.List.{List, []}
use Prim.Native.Nat.{ℕ, zero, suc, ◌≤◌}
use native.Mathlib.Omega.{arith}
use borrow.Author.Tests.{ne_eqb}
use lib.Dec.{eqb, leb, ltb}
use lib.ListN.{length, take}
use lib.Seq.{length-take-le}
use Rattle.base.specs.Choice.{when◌then◌else◌}
use Rattle.refusals.specs.declared.Refusal.{Refusal}
use Rattle.reading.specs.Reading.{limit}
use Rattle.kit_log.specs.Reading.{frame, refused, fine}
use Rattle.kit_log.specs.Call.{refuses, Call, call}
use Rattle.kit_log.specs.Room.{Led, Small}
use Rattle.kit_log.proofs.Room.{at_most_71}
use Rattle.kit_log.proofs.History.{call_stops}
use Rattle.kit_log.proofs.Agrees.{anything}
use Rattle.kit_log.proofs.Frames.{fine_begins}
use Rattle.kit_log.proofs.Leads.{LedTo, number_led, frame_led, nine_led, ten_led, ended_led}
use Rattle.log_reader.specs.State.{want_of, of_logs, state_of, is_state}
use Rattle.log_reader.specs.Reader.{said_by, Runs}
use Rattle.log_reader.specs.Seen.{held_by}
use Rattle.log_reader.specs.declared.Reader.{Reader}
use Rattle.log_reader.specs.declared.Reader.TheVariants.{Number, Frame, Refused, Ended}
use Rattle.log_reader.specs.declared.Answer.TheVariants as answer
use Rattle.log_reader.specs.declared.Answered.{Answered}
use Rattle.log_reader.proofs.Readers.{few_groups, below_weight, of_logs_says, state_is, state_refused, state_room}
use Rattle.log_reader.proofs.FrameSteps.{begun}
use Rattle.log_reader.proofs.Turns.{number_state}

pub led : (p : List ℕ) (st : Reader) → is_state p st ≡ true → Led (state_of p st)
led p (Number wanted v g) s = record { groups = g; few = few_groups v g (number_state p (Number wanted v g) 0 s refl); is = refl }
led p (Frame t n k) s =
    let b = begun p t n k s in
    let long : length (take k p) ≡ k = length-take-le k p (omega (arith, b.short, b.high, b.room)) in
    (b.high, omega (arith, b.short))
led p (Refused r) s = tt
led p Ended s = tt

pub taken_71 : {before input after : List ℕ} {st : Reader} {r : Answered} → is_state before st ≡ true → Runs before st input after r → r.taken ≤ 71
taken_71 {before} {input} {st = st} {r} s runs =
    let is : r.taken ≡ _ = ap (λ (c : Call). c.taken) runs.shown in
    omega (arith, at_most_71 (state_of before st) (led before st s) input)

-- ---- a call on a state is not refused with 8

pub refused_here : (p : List ℕ) (st : Reader) {r : Refusal} → is_state p st ≡ true → state_of p st ≡ refused r → of_logs r ≡ true
refused_here p (Number wanted v g) s e = absurd (let z : ◌≡◌ {A = ℕ} 0 1 = cc in omega arith)
refused_here p (Frame t n k) s e = absurd (let z : ◌≡◌ {A = ℕ} 0 1 = cc in omega arith)
refused_here p (Refused k) {r} s e =
    let same : k ≡ r = cc in
    ap of_logs (sym same) ∙ state_refused p (Refused k) (state_room p (Refused k) s) refl ∙ s
refused_here p Ended s e = absurd (let z : ◌≡◌ {A = ℕ} 0 1 = cc in omega arith)

-- what is refused on a state is refused with 9 or 10
pub refused_of_logs : {before input after : List ℕ} {st : Reader} {r : Answered} → Runs before st input after r → {k : Refusal} → r.answer ≡ answer.Refused k → of_logs k ≡ true
unfolding said_by
refused_of_logs {before} {input} {after} {st} {r} runs {k} e =
    let said : (call (state_of before st) input).said ≡ refuses k = ap (λ (c : Call). c.said) (sym runs.shown) ∙ ap (said_by input after) e in
    refused_here after r.reader runs.stands (ap (λ (c : Call). c.state) runs.shown ∙ call_stops (state_of before st) input said)

-- ---- only what some log leads to is a state

pub led_to : (p : List ℕ) (st : Reader) → is_state p st ≡ true → Small (state_of p st) → LedTo (state_of p st)
led_to p (Number wanted v g) s small =
    let e = number_state p (Number wanted v g) 0 s refl in number_led (want_of wanted) v g (below_weight v g e) (few_groups v g e) small
led_to p (Frame t n zero) s small = let b = begun p t n 0 s in frame_led t n [] small b.low b.high (anything n b.low b.high) b.short
led_to p (Frame t n (suc k)) s small =
    let b = begun p t n (suc k) s in
    let h = take (suc k) p in
    let long : length h ≡ suc k = length-take-le (suc k) p (omega (arith, b.short, b.high, b.room)) in
    let held : fine n h ≡ true = simp (ne_eqb (suc k) 0 (λ (e : suc k ≡ 0). omega arith)) at b.held in
    frame_led t n h small b.low b.high (fine_begins n h b.low b.high (omega arith) (omega (arith, b.short)) held) (omega (arith, b.short))
led_to p (Refused r) s small =
    ⊎_elim (λ e. rw e nine_led) (λ e. rw e ten_led) (of_logs_says r (state_refused p (Refused r) (state_room p (Refused r) s) refl ∙ s))
led_to p Ended s small = ended_led

-- ---- the bytes beside the held ones

pub beside : (p q : List ℕ) (st : Reader) → limit ≤ length p → limit ≤ length q → held_by p st ≡ held_by q st → (is_state p st ≡ is_state q st) × (state_of p st ≡ state_of q st)
beside p q (Number wanted v g) room room' e = (state_is p (Number wanted v g) room ∙ sym (state_is q (Number wanted v g) room'), refl)
beside p q (Frame t n k) room room' e =
    (state_is p (Frame t n k) room ∙ ap (λ (h : List ℕ). (leb 4 n && leb n limit) && (ltb k n && (when eqb k 0 then true else fine n h))) e ∙ sym (state_is q (Frame t n k) room'), ap (frame t n) e)
beside p q (Refused r) room room' e = (state_is p (Refused r) room ∙ sym (state_is q (Refused r) room'), refl)
beside p q Ended room room' e = (state_is p Ended room ∙ sym (state_is q Ended room'), refl)
