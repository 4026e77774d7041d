-- One byte of any state, and one call: what the code says at each return.
-- Assumes nothing.
use Rattle.std.specs.Prelude.{Option, Some, None}
use mathlib.Core.Path.{◌≡◌, refl, sym, ap, ap₂, ◌∙◌}
use mathlib.Core.Bool.{true}
use mathlib.Core.List.{List, [], ◌∷◌, ◌++◌}
use Prim.Native.Nat.{ℕ, suc, ◌+◌, ◌≤◌, ◌<◌}
use native.Mathlib.Nat.{zero-add, add_assoc}
use native.Mathlib.Numerals.{add-one}
use native.Mathlib.Omega.{arith}
use lib.Dec.{eqb}
use lib.ListN.{length, get_or, take, drop}
use lib.Seq.{drop-cons, drop-length, length-take-le}
use Rattle.base.proofs.Tests.{by_test}
use Rattle.kit_log.specs.Entry.{Entry}
use Rattle.kit_log.specs.Reading.{number, refused, boundary, on, feed, takes, finish}
use Rattle.kit_log.specs.Call.{Said, gives, refuses, said_at, Call, later, call}
use Rattle.log_reader.specs.State.{want_of, weight_of, can_go_on, of_logs, state_of, is_state}
use Rattle.log_reader.specs.Reader.{said_by, Placed, Runs, ending_of, Closes}
use Rattle.log_reader.specs.Parts.{FedNumber, Turns, FedFrame, answer_at, end_number, end_reader, ending_at}
use Rattle.log_reader.specs.declared.Wanted.{Wanted}
use Rattle.log_reader.specs.declared.Wanted.TheVariants.{Version, Seconds, Size}
use Rattle.refusals.specs.declared.Refusal.{Refusal}
use Rattle.refusals.specs.declared.Refusal.TheVariants.{InvalidLog}
use Rattle.reading.specs.Reading.{limit}
use Rattle.log_reader.specs.declared.Reader.{Reader}
use Rattle.log_reader.specs.declared.Reader.TheVariants.{Number, Frame, Refused, Ended}
use Rattle.log_reader.specs.declared.Answer.{Answer}
use Rattle.log_reader.specs.declared.Answer.TheVariants as answer
use Rattle.log_reader.specs.declared.Place.TheVariants as place
use Rattle.log_reader.specs.declared.Answered.{Answered}
use Rattle.log_reader.specs.Reader.{Ending}
use Rattle.log_reader.specs.declared.Turn.{Turn}
use Rattle.log_reader.specs.declared.Turn.TheVariants as turn
use Rattle.kit_log.proofs.History.{call_on, call_entry, call_refused, call_ended}
use Rattle.log_reader.proofs.Readers.{of_logs_9, state_refused, state_ended, state_number, stands_refused, stands_fresh, state_room, few_groups}
use Rattle.kit_log.proofs.Weights.{weight_unit}
use Rattle.log_reader.proofs.Late.{Late, Fresh, late_on, late_entry}

-- ---- one byte

module _ (p : List ℕ) (st : Reader) (b : ℕ) (state : is_state p st ≡ true) where
  room : limit ≤ length p
  room = state_room p st state

  pub number_state : {wanted : Wanted} {v g : ℕ} → st ≡ Number wanted v g → can_go_on v g ≡ true
  number_state e = state_number p st room e ∙ state

  pub turn_number : {wanted : Wanted} {v g : ℕ} {r : Reader} → st ≡ Number wanted v g → FedNumber wanted v g b r → Turns p (state_of p st) b p (turn.On r)
  unfolding feed
  turn_number e f = rw e record { fed = ap on (f.stands_for p room); stands = f.is_one p room; same = refl }

  pub turn_frame : {t n k : ℕ} {after : List ℕ} {r : Turn} → st ≡ Frame t n k → FedFrame p t n (take k p ++ b ∷ []) after r → Turns p (state_of p st) b after r
  unfolding feed
  turn_frame e f = rw e record { fed = f.fed; stands = f.stands; same = f.same }

-- ---- the end

-- a number may be the first of its entry, none of it having come
end_number_is : (wanted : Wanted) (v g : ℕ) (p : List ℕ) → g ≤ 4 → state_of p (end_number wanted g) ≡ finish (number (want_of wanted) v (weight_of g))
unfolding finish
end_number_is Version v g p few = refl
end_number_is Seconds v g p few = by_test (eqb g 0) (λ t. simp (t, weight_unit g few)) (λ t. simp (t, weight_unit g few))
end_number_is (Size t) v g p few = refl

end_is : (p : List ℕ) (st : Reader) → is_state p st ≡ true → state_of p (end_reader st) ≡ finish (state_of p st)
unfolding finish
end_is p (Number wanted v g) s = end_number_is wanted v g p (few_groups v g (number_state p (Number wanted v g) 0 s refl))
end_is p (Frame t n k) s = refl
end_is p (Refused r) s = refl
end_is p Ended s = refl

end_number_stands : (p : List ℕ) (wanted : Wanted) (g : ℕ) → limit ≤ length p → is_state p (end_number wanted g) ≡ true
end_number_stands p Version g room = stands_refused p InvalidLog room of_logs_9
end_number_stands p Seconds g room =
    by_test (eqb g 0) (λ t. rw t (sym (state_ended p Ended room refl))) (λ t. rw t (stands_refused p InvalidLog room of_logs_9))
end_number_stands p (Size t) g room = stands_refused p InvalidLog room of_logs_9

end_stands : (p : List ℕ) (st : Reader) → is_state p st ≡ true → is_state p (end_reader st) ≡ true
end_stands p (Number wanted v g) s = end_number_stands p wanted g (state_room p (Number wanted v g) s)
end_stands p (Frame t n k) s = stands_refused p InvalidLog (state_room p (Frame t n k) s) of_logs_9
end_stands p (Refused r) s = s
end_stands p Ended s = s

ending_is : (p : List ℕ) (st : Reader) → ending_at st ≡ ending_of (state_of p st)
unfolding ending_of
ending_is p (Number wanted v g) = refl
ending_is p (Frame t n k) = refl
ending_is p (Refused r) = refl
ending_is p Ended = refl

pub end_finishes : (p : List ℕ) (st : Reader) → is_state p st ≡ true → {closed : Reader} {said : Ending} → closed ≡ end_reader st → said ≡ ending_at closed
    → Closes p st (record { reader = closed; ending = said })
end_finishes p st s {closed} {said} e q = record {
  refuses = λ f. absurd (let z : ◌≡◌ {A = ℕ} 0 1 = cc in omega arith);
  finishes = λ _. record {
    finished = ap (state_of p) e ∙ end_is p st s;
    said = q ∙ ending_is p closed ∙ ap ending_of (ap (state_of p) e ∙ end_is p st s);
    stands = rw e (end_stands p st s);
  };
}

-- ---- a call

pub later_later : (i j : ℕ) (c : Call) → later i (later j c) ≡ later (i + j) c
later_later i j c = ap (λ (n : ℕ). record { said = c.said; taken = n; state = c.state }) (sym (add_assoc i j c.taken))

later_zero : (c : Call) → later 0 c ≡ c
later_zero c = ap (λ (n : ℕ). record { said = c.said; taken = n; state = c.state }) (zero-add c.taken)

-- what a reader that takes no byte any more says to one
abbrev pub refusal_at : Reader → Option Refusal
refusal_at (Number wanted v g) = None
refusal_at (Frame t n k) = None
refusal_at (Refused r) = Some r
refusal_at Ended = Some InvalidLog

-- a byte that a reader takes, at place i of a piece of m
pub record Taken (m i : ℕ) (p : List ℕ) (at : Reader) (b : ℕ) (p' : List ℕ) (t : Turn) : Type 0 where
  pub turns : Turns p (state_of p at) b p' t
  pub goes : refusal_at at ≡ None
  pub fresh : Fresh m i (state_of p at)

going_takes : (p : List ℕ) (at : Reader) → refusal_at at ≡ None → takes (state_of p at) ≡ 1
unfolding takes
going_takes p (Number wanted v g) e = refl
going_takes p (Frame t n k) e = refl
going_takes p (Refused w) e = absurd (cc)
going_takes p Ended e = absurd (cc)

stopped_call : (p : List ℕ) (at : Reader) {w : Refusal} (b : ℕ) (s : List ℕ) → refusal_at at ≡ Some w
    → call (state_of p at) (b ∷ s) ≡ record { said = refuses w; taken = 0; state = refused w }
stopped_call p (Number wanted v g) b s e = absurd (cc)
stopped_call p (Frame t n k) b s e = absurd (cc)
stopped_call p (Refused r) {w} b s e = let same : r ≡ w = cc in rw same (call_refused w (b ∷ s))
stopped_call p Ended {w} b s e = let same : InvalidLog ≡ w = cc in rw same at (call_ended b s)

-- what stops is of logs
stopped_of_logs : (p : List ℕ) (at : Reader) {w : Refusal} → is_state p at ≡ true → refusal_at at ≡ Some w → of_logs w ≡ true
stopped_of_logs p (Number wanted v g) s e = absurd (cc)
stopped_of_logs p (Frame t n k) s e = absurd (cc)
stopped_of_logs p (Refused r) {w} s e = let same : r ≡ w = cc in rw same at (state_refused p (Refused r) (state_room p (Refused r) s) refl ∙ s)
stopped_of_logs p Ended {w} s e = let same : InvalidLog ≡ w = cc in rw same at of_logs_9

said_at_lem : (piece p : List ℕ) (at : Reader) → said_by piece p (answer_at at) ≡ said_at (state_of p at)
unfolding said_at said_by
said_at_lem piece p (Number wanted v g) = refl
said_at_lem piece p (Frame t n k) = refl
said_at_lem piece p (Refused w) = refl
said_at_lem piece p Ended = refl

placed_at : (piece p : List ℕ) (i : ℕ) (at : Reader) → Placed piece p i (answer_at at)
placed_at piece p i (Number wanted v g) = tt
placed_at piece p i (Frame t n k) = tt
placed_at piece p i (Refused w) = tt
placed_at piece p i Ended = tt

-- what the loop keeps: what is still to be said of the whole piece is what is to be said of the rest of it
pub record Going (p₀ : List ℕ) (at₀ : Reader) (input p : List ℕ) (at : Reader) (i : ℕ) : Type 0 where
  pub inside : i ≤ length input
  pub state : is_state p at ≡ true
  pub same : length p ≡ length p₀
  pub calls : call (state_of p₀ at₀) input ≡ later i (call (state_of p at) (drop i input))
  pub late : Late (length input) i (state_of p at)

module _ {p₀ : List ℕ} {at₀ : Reader} {input p : List ℕ} {at : Reader} {i : ℕ} (g : Going p₀ at₀ input p at i) where
  pub going_end : length input ≤ i → {n : ℕ} → n ≡ i → {a : Answer} → a ≡ answer_at at → Runs p₀ at₀ input p (record { reader = at; taken = n; answer = a })
  unfolding call
  going_end all n-is {a} e =
      let inside = g.inside in
      let i_is : i ≡ length input = omega arith in
      let none : drop i input ≡ [] = ap (λ (j : ℕ). drop j input) i_is ∙ drop-length input in
      let zero_more : i + 0 ≡ i = omega arith in
      rw (n-is, e) record {
        shown =
            sym
            (g.calls
            ∙ ap (λ (s : List ℕ). later i (call (state_of p at) s)) none
            ∙ ap₂ (λ (x : Said) (j : ℕ). record { said = x; taken = j; state = state_of p at }) (sym (said_at_lem input p at)) zero_more);
        stands = g.state;
        placed = placed_at input p i at;
        same = g.same;
      }

  module _ (some : i < length input) where
    abbrev b : ℕ
    b = get_or input i 0

    split : drop i input ≡ b ∷ drop (suc i) input
    split = drop-cons input i 0 some

    pub going_stop : {w : Refusal} → refusal_at at ≡ Some w → {r : Answered} → r ≡ record { reader = Refused w; taken = i; answer = answer.Refused w }
        → Runs p₀ at₀ input p r
    unfolding said_by
    going_stop {w} stopped e =
        let zero_more : i + 0 ≡ i = omega arith in
        rw e record {
          shown =
              sym
              (g.calls
              ∙ ap (λ (s : List ℕ). later i (call (state_of p at) s)) split
              ∙ ap (later i) (stopped_call p at b (drop (suc i) input) stopped)
              ∙ ap (λ (j : ℕ). record { said = refuses w; taken = j; state = refused w }) zero_more);
          stands = stands_refused p w (state_room p at g.state) (stopped_of_logs p at g.state stopped);
          placed = tt;
          same = g.same;
        }

    module _ {p' : List ℕ} where
      pub going_on : {at' : Reader} → Taken (length input) i p at b p' (turn.On at') → Going p₀ at₀ input p' at' (i + 1)
      going_on {at'} x =
          let t = x.turns in
          record {
            inside = omega arith;
            state = t.stands;
            same = t.same ∙ g.same;
            calls =
                g.calls
                ∙ ap (λ (s : List ℕ). later i (call (state_of p at) s)) split
                ∙ ap (later i) (call_on (state_of p at) (state_of p' at') b (drop (suc i) input) (sym t.fed))
                ∙ later_later i (takes (state_of p at)) (call (state_of p' at') (drop (suc i) input))
                ∙ ap₂ (λ (n m : ℕ). later n (call (state_of p' at') (drop m input))) (ap (λ (n : ℕ). i + n) (going_takes p at x.goes)) (sym (add-one i));
            late = late_on (length input) i b (state_of p at) (sym t.fed) x.fresh g.late;
          }

      pub going_entry : {t n : ℕ} {r : Reader} → Taken (length input) i p at b p' (turn.Entry t n) → r ≡ Number Seconds 0 0
          → Runs p₀ at₀ input p' (record { reader = r; taken = i + 1; answer = answer.Entry t (place.InHeld n) })
      unfolding said_by
      going_entry {t} {n} q e =
          let turned = q.turns in
          let same = turned.same in
          let x : Entry = record { seconds = t; frame = take n p' } in
          rw e record {
            shown =
                sym
                (g.calls
                ∙ ap (λ (s : List ℕ). later i (call (state_of p at) s)) split
                ∙ ap (later i) (call_entry (state_of p at) x b (drop (suc i) input) (sym turned.fed))
                ∙ ap (λ (j : ℕ). record { said = gives x; taken = i + j; state = boundary }) (going_takes p at q.goes));
            stands = stands_fresh p' Seconds (omega (arith, state_room p at g.state));
            placed =
                let late = late_entry (length input) i b (state_of p at) (sym turned.fed) q.fresh g.late some in
                let long = length-take-le n p' turned.stands in
                (omega arith, turned.stands);
            same = turned.same ∙ g.same;
          }
