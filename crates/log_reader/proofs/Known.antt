-- A reader is known by what it stands for, and a call's answer by what it says and how many bytes it took.
-- Assumes nothing.
use mathlib.Core.Path.{◌≡◌, refl, sym, ap, ap₂, ◌∙◌}
use mathlib.Core.Bool.{true, false}
use mathlib.Core.List.{List, []}
use Prim.Native.Nat.{ℕ, ◌-◌}
use native.Mathlib.Omega.{arith}
use borrow.Author.Tests.{le-leb, lt-leb}
use lib.Dec.{leb}
use lib.ListN.{length, take}
use lib.Seq.{length-take-le}
use Rattle.base.specs.Choice.{when◌then◌else◌}
use Rattle.base.specs.Parts.{part}
use Rattle.base.proofs.Parts.{length_part}
use Rattle.base.proofs.Tests.{by_test}
use Rattle.kit_log.specs.Reading.{Want, version, seconds, size, State, number, frame, refused, ended}
use Rattle.kit_log.specs.Call.{Said, more, gives, refuses, Call, call}
use Rattle.kit_log.proofs.Weights.{groups_at, weight_back}
use Rattle.log_reader.specs.State.{want_of, state_of, is_state}
use Rattle.log_reader.specs.Reader.{said_by, Placed, Runs, Nexts, Closes}
use Rattle.log_reader.specs.Seen.{held_by, frame_among, Seen, seen}
use Rattle.log_reader.specs.declared.Wanted.{Wanted}
use Rattle.log_reader.specs.declared.Wanted.TheVariants.{Version, Seconds, Size}
use Rattle.log_reader.specs.declared.Reader.{Reader}
use Rattle.log_reader.specs.declared.Reader.TheVariants.{Number, Frame, Refused, Ended}
use Rattle.log_reader.specs.declared.Place.{Place}
use Rattle.log_reader.specs.declared.Place.TheVariants.{InPiece, InHeld}
use Rattle.log_reader.specs.declared.Answer.{Answer}
use Rattle.log_reader.specs.declared.Answer.TheVariants as answer
use Rattle.log_reader.specs.declared.Answered.{Answered}
use Rattle.log_reader.specs.Reader.{Ending}
use Rattle.log_reader.specs.declared.Closed.{Closed}
use Rattle.log_reader.proofs.Readers.{few_groups}
use Rattle.log_reader.proofs.FrameSteps.{begun}
use Rattle.log_reader.proofs.Turns.{number_state}

-- ---- the reader

wanted_of : Want → Wanted
wanted_of version = Version
wanted_of seconds = Seconds
wanted_of (size t) = Size t

reader_at : State → Reader
unfolding wanted_of
reader_at (number want v w) = Number (wanted_of want) v (groups_at w)
reader_at (frame t n h) = Frame t n (length h)
reader_at (refused r) = Refused r
reader_at ended = Ended

wanted_back : (wanted : Wanted) → wanted_of (want_of wanted) ≡ wanted
unfolding wanted_of
wanted_back Version = refl
wanted_back Seconds = refl
wanted_back (Size t) = refl

reader_back : (p : List ℕ) (r : Reader) → is_state p r ≡ true → reader_at (state_of p r) ≡ r
unfolding reader_at
reader_back p (Number wanted v g) s =
    ap₂ (λ (x : Wanted) (k : ℕ). Number x v k) (wanted_back wanted) (weight_back g (few_groups v g (number_state p (Number wanted v g) 0 s refl)))
reader_back p (Frame t n k) s =
    let b = begun p t n k s in ap (Frame t n) (length-take-le k p (omega (arith, b.short, b.high, b.room)))
reader_back p (Refused r) s = refl
reader_back p Ended s = refl

pub one_reader : (p q : List ℕ) (r s : Reader) → is_state p r ≡ true → is_state q s ≡ true → state_of p r ≡ state_of q s → r ≡ s
one_reader p q r s a b e = sym (reader_back p r a) ∙ ap reader_at e ∙ reader_back q s b

-- .. and what it holds
held_at : State → List ℕ
held_at (number want v w) = []
held_at (frame t n h) = h
held_at (refused r) = []
held_at ended = []

held_is : (p : List ℕ) (r : Reader) → held_by p r ≡ held_at (state_of p r)
unfolding held_at
held_is p (Number wanted v g) = refl
held_is p (Frame t n k) = refl
held_is p (Refused r) = refl
held_is p Ended = refl

-- ---- the answer

place_at : ℕ → ℕ → Place
place_at taken n = when leb n taken then InPiece (taken - n) n else InHeld n

answer_at : ℕ → Said → Answer
answer_at taken more = answer.More
answer_at taken (gives e) = answer.Entry e.seconds (place_at taken (length e.frame))
answer_at taken (refuses r) = answer.Refused r

among_at : ℕ → Said → List ℕ
among_at taken more = []
among_at taken (gives e) = when leb (length e.frame) taken then [] else e.frame
among_at taken (refuses r) = []

answer_back : (piece p : List ℕ) (taken : ℕ) (a : Answer) → Placed piece p taken a
    → (a ≡ answer_at taken (said_by piece p a)) × (frame_among p a ≡ among_at taken (said_by piece p a))
unfolding said_by answer_at among_at place_at
answer_back piece p taken answer.More placed = (refl, refl)
answer_back piece p taken (answer.Entry t (InPiece at n)) placed =
    let is = placed.0 in
    let long : length (part piece at n) ≡ n = length_part piece at n (omega (arith, placed.1)) in
    let all : leb n taken ≡ true = le-leb n taken (omega arith) in
    let behind : taken - n ≡ at = omega arith in
    (rw (long, all, behind), rw (long, all))
answer_back piece p taken (answer.Entry t (InHeld n)) placed =
    let long : length (take n p) ≡ n = length-take-le n p placed.1 in
    let late : leb n taken ≡ false = lt-leb n taken placed.0 in
    (rw (long, late), rw (long, late))
answer_back piece p taken (answer.Refused r) placed = (refl, refl)

-- ---- a call and the end

seen_of : Call → Seen
seen_of c = record {
  answered = record { reader = reader_at c.state; taken = c.taken; answer = answer_at c.taken c.said };
  held = held_at c.state;
  frame = among_at c.taken c.said;
  refused = [];
}

all_seen : {a b : Reader} {t u : ℕ} {x y : Answer} {h k f g : List ℕ} → a ≡ b → t ≡ u → x ≡ y → h ≡ k → f ≡ g
    → ◌≡◌ {A = Seen} (record { answered = record { reader = a; taken = t; answer = x }; held = h; frame = f; refused = [] })
    (record { answered = record { reader = b; taken = u; answer = y }; held = k; frame = g; refused = [] })
all_seen p q r u v = cc

closed_is : {a b : Reader} {x y : Ending} → a ≡ b → x ≡ y → ◌≡◌ {A = Closed} (record { reader = a; ending = x }) (record { reader = b; ending = y })
closed_is p q = cc

runs_seen : {before input after : List ℕ} {st : Reader} {r : Answered} → Runs before st input after r → seen true after r ≡ seen_of (call (state_of before st) input)
unfolding seen_of
runs_seen {before} {input} {after} {st} {r} runs =
    let said = ap (λ (c : Call). c.said) runs.shown in
    let taken = ap (λ (c : Call). c.taken) runs.shown in
    let state = ap (λ (c : Call). c.state) runs.shown in
    let back = answer_back input after r.taken r.answer runs.placed in
    all_seen (sym (reader_back after r.reader runs.stands) ∙ ap reader_at state) taken (back.0 ∙ ap₂ answer_at taken said)
    (held_is after r.reader ∙ ap held_at state) (back.1 ∙ ap₂ among_at taken said)

pub one_run : {before input after after' : List ℕ} {st : Reader} {r r' : Answered} → Runs before st input after r → Runs before st input after' r'
    → seen true after r ≡ seen true after' r'
one_run x y = runs_seen x ∙ sym (runs_seen y)

pub one_call : (before : List ℕ) (st : Reader) (input : List ℕ) {after after' : List ℕ} {r r' : Answered}
    → Nexts before st input after r → Nexts before st input after' r' → seen (is_state before st) after r ≡ seen (is_state before st) after' r'
one_call before st input {after} {after'} {r} {r'} x y =
    by_test (is_state before st)
    (λ e. rw e (one_run (x.runs e) (y.runs e)))
    (λ e.
    let a = x.refuses e in
    let b = y.refuses e in
    ap₂ (seen (is_state before st)) (a.1 ∙ sym b.1) (a.0 ∙ sym b.0))

pub one_end : (p : List ℕ) (st : Reader) {r r' : Closed} → Closes p st r → Closes p st r' → r ≡ r'
one_end p st {r} {r'} x y =
    by_test (is_state p st)
    (λ e.
    let a = x.finishes e in
    let b = y.finishes e in
    closed_is (one_reader p p r.reader r'.reader a.stands b.stands (a.finished ∙ sym b.finished)) (a.said ∙ sym b.said))
    (λ e. x.refuses e ∙ sym (y.refuses e))
