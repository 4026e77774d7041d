-- What the tests of a state say, and from what is said of its places to what is said of the state.
-- Assumes nothing.
use Rattle.std.specs.Prelude.{Ok, Err}
use mathlib.Core.Path.{◌≡◌, refl, sym, ap, ap₂, ◌∙◌, subst}
use mathlib.Core.Bool.{Bool, true, false, and-eq-true_iff}
use mathlib.Core.List.{List, [], ◌++◌, append-nil}
use Prim.Native.Nat.{ℕ, ◌-◌, ◌≤◌}
use native.Mathlib.Omega.{arith}
use borrow.Author.Tests.{eqb-true, eq-eqb, ne_eqb}
use lib.Dec.{eqb, leb}
use lib.ListN.{length, get_or, take, drop, take-append-drop, length-append, length-drop, drop_of_length-le}
use lib.Seq.{take_all, length-take-le, drop_at}
use Rattle.base.proofs.Tests.{by_test}
use Rattle.refusals.specs.Row.{number_of}
use Rattle.refusals.specs.declared.Refusal.{Refusal}
use Rattle.refusals.specs.declared.Refusal.TheVariants.{BadState}
use Rattle.reading.specs.Reading.{limit}
use Rattle.log_reader.specs.State as reader
use Rattle.log_reader.specs.State.{of_logs}
use Rattle.kit_log.specs.Reading.{State, number, frame, refused, ended}
use Rattle.log_reader.specs.Reader.{Ending, Runs, Nexts, Finishes, Closes, ending_of}
use Rattle.log_reader.specs.declared.Wanted.TheVariants.{Version}
use Rattle.log_reader.specs.declared.Reader.{Reader}
use Rattle.log_reader.specs.declared.Reader.TheVariants.{Number}
use Rattle.log_reader.specs.declared.Answer.{Answer}
use Rattle.log_reader.specs.declared.Answer.TheVariants as answer
use Rattle.log_reader.specs.declared.Answered.{Answered}
use Rattle.log_reader.specs.declared.Closed.{Closed}
use Rattle.host_log.specs.declared.head.Head.{Head}
use Rattle.host_log.specs.State.{places_at, size, bytes_of, head_of, reader_in, places_in, state_of, has_form, is_state}
use Rattle.log_reader.proofs.Reached.{refused_here, refused_of_logs}
use Rattle.host_log.specs.Calls.{bad_state, bad_end, StateSteps, StateEnds, ending_row, reset_state}
use Rattle.host_log.proofs.Heads.{length_head}

-- ---- the tests

pub form_size : (s : List ℕ) → has_form s ≡ true → length s ≡ size
unfolding has_form
form_size s e = eqb-true (length s) size ((and-eq-true_iff (eqb (length s) size) (leb (get_or s 0 0) 6)).0 e).0

module _ (s : List ℕ) where
  pub formless : has_form s ≡ false → false ≡ is_state s
  unfolding is_state
  formless e = simp e

  pub state_form : is_state s ≡ true → has_form s ≡ true
  unfolding is_state
  state_form e = ((and-eq-true_iff (has_form s) (reader.is_state (places_in s) (reader_in s))).0 e).0

  pub state_size : is_state s ≡ true → length s ≡ size
  state_size e = form_size s (state_form e)

  pub state_reader : is_state s ≡ true → reader.is_state (places_in s) (reader_in s) ≡ true
  unfolding is_state
  state_reader e = ((and-eq-true_iff (has_form s) (reader.is_state (places_in s) (reader_in s))).0 e).1

-- ---- the places, as the code lends them

module _ (s : List ℕ) (fits : length s ≡ size) where
  pub places_count : length (places_in s) ≡ limit
  places_count = length-drop places_at s ∙ omega arith

  pub places_lent : take (length s - places_at) (drop places_at s) ≡ places_in s
  places_lent = take_all (length s - places_at) (drop places_at s) (omega (arith, places_count))

  module _ (ys : List ℕ) where
    -- the state after its places were lent to be written
    abbrev pub written : List ℕ
    written = take places_at s ++ (ys ++ drop (length s - places_at) (drop places_at s))

    written_is : written ≡ take places_at s ++ ys
    written_is =
        let none : drop (length s - places_at) (drop places_at s) ≡ [] = drop_of_length-le (drop places_at s) {i = length s - places_at} (omega (arith, places_count)) in
        ap (λ (l : List ℕ). take places_at s ++ l) (ap (λ (l : List ℕ). ys ++ l) none ∙ append-nil ys)

    head_count : length (take places_at s) ≡ places_at
    head_count = length-take-le places_at s (omega arith)

    pub head_room : places_at ≤ length written
    head_room = rw (written_is, length-append) (omega (arith, head_count))

    pub places_written : drop places_at written ≡ ys
    places_written = ap (drop places_at) written_is ∙ drop_at (take places_at s) ys places_at head_count

  -- nothing was written
  pub written_same : {ys : List ℕ} → ys ≡ places_in s → written ys ≡ s
  written_same {ys} e = written_is ys ∙ ap (λ (l : List ℕ). take places_at s ++ l) e ∙ take-append-drop places_at s

  pub formed : has_form s ≡ true → {x : Bool} {r : Reader} {p : List ℕ} → r ≡ reader_in s → p ≡ places_in s → x ≡ reader.is_state p r → x ≡ is_state s
  unfolding is_state
  formed e r-is p-is x-is = x-is ∙ ap₂ reader.is_state p-is r-is ∙ sym (simp e)

pub places_of : (h : Head) (p : List ℕ) → drop places_at (bytes_of h ++ p) ≡ p
places_of h p = drop_at (bytes_of h) p places_at (length_head h)

-- ---- a call

pub step_refused : (s input : List ℕ) → false ≡ is_state s → StateSteps s input s (record { taken = 0; answer = answer.Refused BadState })
step_refused s input e = record { refuses = λ _. (refl, refl); moves = λ t. absurd (let z : ◌≡◌ {A = ℕ} 0 1 = cc in omega arith) }

-- what is refused on a state is 9 or 10
not_8 : (r : Refusal) → of_logs r ≡ true → eqb (number_of r) 8 ≡ false
unfolding of_logs
not_8 r e =
    by_test (eqb (number_of r) 9) (λ t. ne_eqb (number_of r) 8 (λ (q : number_of r ≡ 8). let n = eqb-true (number_of r) 9 t in omega arith))
    (λ t. let n = eqb-true (number_of r) 10 (simp t at e) in ne_eqb (number_of r) 8 (λ (q : number_of r ≡ 8). omega arith))

not_bad : {before input after : List ℕ} {st : Reader} {a : Answered} → Runs before st input after a → bad_state a.answer ≡ false
not_bad {a = a} runs = by a.answer refl
  where
    by : (x : Answer) → a.answer ≡ x → bad_state x ≡ false
    by answer.More e = refl
    by (answer.Entry t place) e = refl
    by (answer.Refused r) e = not_8 r (refused_of_logs runs e)

module _ (s : List ℕ) (form : has_form s ≡ true) where
  abbrev form_fits : length s ≡ size
  form_fits = form_size s form

  state_is : is_state s ≡ reader.is_state (places_in s) (reader_in s)
  unfolding is_state
  state_is = simp form

  module _ (input p : List ℕ) {r : Reader} {lent : List ℕ} {a : Answered} (r-is : r ≡ reader_in s) (Lent-is : lent ≡ places_in s) (next : Nexts lent r input p a) where
    reader_state : reader.is_state lent r ≡ is_state s
    reader_state = ap₂ reader.is_state Lent-is r-is ∙ sym state_is

    -- the reader refused the state: nothing was written
    pub step_bad : {b : Bool} → b ≡ bad_state a.answer → b ≡ true → StateSteps s input (written s form_fits p) (record { taken = a.taken; answer = a.answer })
    step_bad e q =
        by_test (is_state s)
        (λ t. absurd (let z : ◌≡◌ {A = ℕ} 0 1 = cc (sym (sym e ∙ q) ∙ not_bad (next.runs (reader_state ∙ t))) in omega arith))
        (λ t.
        let refused = next.refuses (reader_state ∙ t) in
        let whole : written s form_fits p ≡ s = written_same s form_fits (refused.1 ∙ Lent-is) in
        let says : record { taken = a.taken; answer = a.answer } ≡ record { taken = 0; answer = answer.Refused BadState } =
        ap (λ (x : Answered). record { taken = x.taken; answer = x.answer }) refused.0 in
        record { refuses = λ _. (says, whole); moves = λ u. absurd (let z : ◌≡◌ {A = ℕ} 0 1 = cc in omega arith) })

    pub step_moves : (after : List ℕ) {b : Bool} → b ≡ bad_state a.answer → b ≡ false → after ≡ bytes_of (head_of a.reader) ++ drop places_at (written s form_fits p)
        → StateSteps s input after (record { taken = a.taken; answer = a.answer })
    step_moves after e q is =
        let after_is : after ≡ state_of a.reader p = is ∙ ap (λ (l : List ℕ). bytes_of (head_of a.reader) ++ l) (places_written s form_fits p) in
        let places : places_in after ≡ p = ap places_in after_is ∙ places_of (head_of a.reader) p in
        record {
          refuses = λ f.
              let bad : bad_state a.answer ≡ true = ap (λ (x : Answered). bad_state x.answer) (next.refuses (reader_state ∙ f)).0 in
              absurd (let z : ◌≡◌ {A = ℕ} 0 1 = cc in omega arith);
          moves = λ t. record {
            reader = a.reader;
            runs = rw (places, ← Lent-is, ← r-is) (next.runs (reader_state ∙ t));
            is = rw places after_is;
          };
        }

pub end_refused : (s : List ℕ) → is_state s ≡ false → StateEnds s s (Err BadState)
end_refused s e = record { refuses = λ _. (refl, refl); ends = λ t. absurd (let z : ◌≡◌ {A = ℕ} 0 1 = cc in omega arith) }

-- where the end is refused with 8, the state is none
refused_end : (st : State) {k : Refusal} → ending_of st ≡ Err k → st ≡ refused k
unfolding ending_of
refused_end (number want v w) e = absurd (let z : ◌≡◌ {A = ℕ} 0 1 = cc in omega arith)
refused_end (frame t n h) e = absurd (let z : ◌≡◌ {A = ℕ} 0 1 = cc in omega arith)
refused_end (refused r) e = cc
refused_end ended e = absurd (let z : ◌≡◌ {A = ℕ} 0 1 = cc in omega arith)

not_bad_end : {p : List ℕ} {st : Reader} {c : Closed} → Finishes p st c → bad_end c.ending ≡ false
not_bad_end {p} {c = c} f = by c.ending refl
  where
    by : (x : Ending) → c.ending ≡ x → bad_end x ≡ false
    by (Ok u) e = refl
    by (Err r) e = not_8 r (refused_here p c.reader f.stands (refused_end (reader.state_of p c.reader) (ap ending_of f.finished ∙ sym f.said ∙ e)))

module _ (s : List ℕ) (form : has_form s ≡ true) {r : Reader} {lent : List ℕ} {c : Closed} (r-is : r ≡ reader_in s) (Lent-is : lent ≡ places_in s)
    (closes : Closes lent r c) where
  closed_state : reader.is_state lent r ≡ is_state s
  closed_state = ap₂ reader.is_state Lent-is r-is ∙ sym (state_is s form)

  pub end_bad : {b : Bool} → b ≡ bad_end c.ending → b ≡ true → StateEnds s s c.ending
  end_bad e q =
      by_test (is_state s)
      (λ t. absurd (let z : ◌≡◌ {A = ℕ} 0 1 = cc (sym (sym e ∙ q) ∙ not_bad_end (closes.finishes (closed_state ∙ t))) in omega arith))
      (λ t. subst (StateEnds s s) (sym (ap (λ (x : Closed). x.ending) (closes.refuses (closed_state ∙ t)))) (end_refused s t))

  pub end_good : {b : Bool} → b ≡ bad_end c.ending → b ≡ false → is_state s ≡ true
  end_good e q =
      by_test (is_state s) (λ t. t)
      (λ t.
      let bad : bad_end c.ending ≡ true = ap (λ (x : Closed). bad_end x.ending) (closes.refuses (closed_state ∙ t)) in
      absurd (let z : ◌≡◌ {A = ℕ} 0 1 = cc in omega arith))

module _ (s : List ℕ) (good : is_state s ≡ true) where
  pub end_moves : (after : List ℕ) {r : Reader} {lent : List ℕ} {c : Closed} → r ≡ reader_in s → lent ≡ places_in s → Closes lent r c
      → after ≡ bytes_of (head_of c.reader) ++ drop places_at s → StateEnds s after c.ending
  end_moves after {r} {lent} {c} r-is Lent-is closes is =
      let finishes = closes.finishes (ap₂ reader.is_state Lent-is r-is ∙ state_reader s good) in
      record {
        refuses = λ f. absurd (let z : ◌≡◌ {A = ℕ} 0 1 = cc in omega arith);
        ends = λ _. record { reader = c.reader; finishes = rw (← Lent-is, ← r-is) finishes; is = is };
      }

-- ---- a reset

pub reset_refused : (s : List ℕ) → (length s ≡ size → ⊥) → (ending_row (Err BadState), s) ≡ reset_state s
unfolding reset_state ending_row
reset_refused s h = simp (ne_eqb (length s) size h)

pub reset_done : (s after : List ℕ) {r : Reader} → length s ≡ size → r ≡ Number Version 0 0 → after ≡ bytes_of (head_of r) ++ drop places_at s
    → (ending_row (Ok tt), after) ≡ reset_state s
unfolding reset_state
reset_done s after e r-is is =
    ap (λ (l : List ℕ). (ending_row (Ok tt), l)) (is ∙ ap (λ (x : Reader). bytes_of (head_of x) ++ drop places_at s) r-is) ∙ sym (simp (eq-eqb (length s) size e))
