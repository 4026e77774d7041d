-- Any run of a host's log entries is a session of the reader, so whatever the cuts it gives the log's entries and comes to its end state: demand 3, for a
-- host's logs.
-- Assumes nothing.
use mathlib.Core.Path.{◌≡◌, sym, ap, ◌∙◌, subst}
use mathlib.Core.Bool.{true}
use mathlib.Core.List.{List}
use Prim.Native.Nat.{ℕ, ◌≤◌}
use native.Mathlib.Omega.{arith}
use borrow.Author.Tests.{eq-eqb}
use lib.ListN.{length}
use Rattle.reading.specs.Reading.{limit}
use Rattle.kit_log.specs.Entry.{Entry, greatest}
use Rattle.kit_log.specs.Call.{Call, call, Faithful}
use Rattle.kit_log.specs.Room.{Small}
use Rattle.kit_log.proofs.Small.{call_small}
use Rattle.log_reader.specs.State as reader
use Rattle.log_reader.specs.Reader.{Runs, Nexts}
use Rattle.log_reader.specs.Session as reader-session
use Rattle.log_reader.specs.declared.Wanted.TheVariants.{Version}
use Rattle.log_reader.specs.declared.Reader.{Reader}
use Rattle.log_reader.specs.declared.Reader.TheVariants.{Number}
use Rattle.log_reader.specs.declared.Answered.{Answered}
use Rattle.log_reader.proofs.Readers.{stands_fresh}
use Rattle.log_reader.proofs.Sessions.{any_cut}
use Rattle.log_reader.proofs.Reached.{taken_71}
use Rattle.host_log.specs.declared.Replied.{Replied}
use Rattle.host_log.specs.State.{size, reader_in, places_in, state_of, is_state}
use Rattle.host_log.specs.Calls.{StateSteps, Moves, reset_state}
use Rattle.host_log.specs.Session.{Session, begin, offer, ask}
use Rattle.host_log.proofs.States.{state_size, state_reader, places_count, places_of}
use Rattle.host_log.proofs.Again.{seconds_of, small_seconds, seconds_small, reader_again, state_again}

-- ---- where a call or a reset leaves a state

-- this reader stands there, over these places
record Stands (state : List ℕ) (r : Reader) (p : List ℕ) : Type 0 where
  good : is_state state ≡ true
  reader_is : reader_in state ≡ r
  places_is : places_in state ≡ p

written_stands : (state : List ℕ) (r : Reader) (p : List ℕ) → state ≡ state_of r p → length p ≡ limit → reader.is_state p r ≡ true → seconds_of r ≤ greatest → Stands state r p
written_stands state r p e full s t = record {
  good = ap is_state e ∙ state_again p r full s t;
  reader_is = ap reader_in e ∙ reader_again p r s t;
  places_is = ap places_in e ∙ places_of _ p;
}

-- a reset state, whatever it was
reset_is : (state : List ℕ) → length state ≡ size → Stands (reset_state state).1 (Number Version 0 0) (places_in state)
unfolding reset_state
reset_is state fits =
    let full = places_count state fits in
    written_stands (reset_state state).1 (Number Version 0 0) (places_in state) (simp (eq-eqb (length state) size fits)) full
    (stands_fresh (places_in state) Version (omega arith)) (omega arith)

pub reset_stands : (state : List ℕ) → length state ≡ size → (is_state (reset_state state).1 ≡ true) × (reader_in (reset_state state).1 ≡ Number Version 0 0)
reset_stands state fits = let s = reset_is state fits in (s.good, s.reader_is)

moved_stands : {before input after : List ℕ} {r : Replied} → is_state before ≡ true → seconds_of (reader_in before) ≤ greatest → (m : Moves before input after r)
    → Stands after m.reader (places_in after) × (seconds_of m.reader ≤ greatest)
moved_stands {before} {input} {after} {r} good few m =
    let full : length (places_in after) ≡ limit = m.runs.same ∙ places_count before (state_size before good) in
    let state_is : reader.state_of (places_in after) m.reader ≡ (call (reader.state_of (places_in before) (reader_in before)) input).state =
    ap (λ (c : Call). c.state) m.runs.shown in
    let small : Small (reader.state_of (places_in after) m.reader) =
    subst Small (sym state_is) (call_small _ (seconds_small (places_in before) (reader_in before) few) input) in
    let few' = small_seconds (places_in after) m.reader small in
    (written_stands after m.reader (places_in after) m.is full m.runs.stands few', few')

-- ---- any session

-- what every session keeps
pub record Followed (log state unread : List ℕ) (es : List Entry) : Type 0 where
  pub good : is_state state ≡ true
  pub few : seconds_of (reader_in state) ≤ greatest
  pub session : reader-session.Session log (places_in state) (reader_in state) unread es

next_is : {p input after : List ℕ} {st : Reader} {r : Answered} → reader.is_state p st ≡ true → Runs p st input after r → Nexts p st input after r
next_is good runs = record { refuses = λ e. absurd (let z : ◌≡◌ {A = ℕ} 0 1 = cc in omega arith); runs = λ _. runs }

pub followed : {log state unread : List ℕ} {es : List Entry} → Session log state unread es → Followed log state unread es
followed (begin state fits) =
    let full = places_count state fits in
    let s = reset_is state fits in
    record {
      good = s.good;
      few = rw s.reader_is (omega arith);
      session = rw (s.reader_is, s.places_is) (reader-session.begin (places_in state) (omega arith));
    }
followed (offer piece h) = let f = followed h in record { good = f.good; few = f.few; session = reader-session.offer piece f.session }
followed (ask input behind after r h steps) =
    let f = followed h in
    let m = steps.moves f.good in
    let s = moved_stands f.good f.few m in
    record {
      good = s.0.good;
      few = rw s.0.reader_is s.1;
      session = rw s.0.reader_is
          (reader-session.ask input behind (places_in after) (record { reader = m.reader; taken = r.taken; answer = r.answer }) f.session
          (next_is (state_reader _ f.good) m.runs));
    }

-- demand 3, for a host's logs
pub any_host_cut : {log state unread : List ℕ} {es : List Entry} → Session log state unread es
    → Faithful log (reader.state_of (places_in state) (reader_in state)) unread es
any_host_cut s = any_cut (followed s).session

-- and a call takes 71 bytes at most
pub host_taken_71 : {before input after : List ℕ} {r : Replied} → is_state before ≡ true → StateSteps before input after r → r.taken ≤ 71
host_taken_71 {before} good steps = taken_71 (state_reader before good) (steps.moves good).runs
