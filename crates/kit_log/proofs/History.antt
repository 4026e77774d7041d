-- However a log is cut into pieces, the reader gives the reading's entries and comes to its end state.
-- Assumes nothing.
use mathlib.Core.Path.{◌≡◌, refl, sym, ap, ap₂, ◌∙◌}
use mathlib.Core.List.{List, [], ◌∷◌, ◌++◌, append_assoc, append-nil, nil≢cons}
use Prim.Native.Nat.{ℕ, suc, ◌+◌, ◌-◌, ◌≤◌}
use native.Mathlib.Omega.{arith}
use lib.ListN.{length, drop, length-append, length-drop}
use Rattle.refusals.specs.declared.Refusal.{Refusal}
use Rattle.refusals.specs.declared.Refusal.TheVariants.{InvalidLog}
use Rattle.kit_log.specs.Entry.{Entry}
use Rattle.kit_log.specs.Reading.{State, number, frame, refused, ended, boundary, Fed, on, entry, feed, takes, after, answered, Reading, before, read_from, reading}
use Rattle.kit_log.specs.Call.{gives, refuses, said_at, Call, later, call, given, History, begin, offer, ask, Faithful}
use Rattle.kit_log.proofs.Reading.{reading_is, before_before, before_nil}

-- ---- one call

pub call_on : (st st' : State) (b : ℕ) (s : List ℕ) → feed st b ≡ on st' → call st (b ∷ s) ≡ later (takes st) (call st' s)
unfolding call
call_on st st' b s e = rw (e, call)

pub call_entry : (st : State) (x : Entry) (b : ℕ) (s : List ℕ) → feed st b ≡ entry x → call st (b ∷ s) ≡ record { said = gives x; taken = takes st; state = boundary }
unfolding call
call_entry st x b s e = rw (e, call)

pub call_refused : (r : Refusal) (s : List ℕ) → call (refused r) s ≡ record { said = refuses r; taken = 0; state = refused r }
unfolding call said_at feed takes
call_refused r [] = refl
call_refused r (b ∷ s) = ap (later 0) (call_refused r s)

pub call_ended : (b : ℕ) (s : List ℕ) → call ended (b ∷ s) ≡ record { said = refuses InvalidLog; taken = 0; state = refused InvalidLog }
unfolding call feed takes
call_ended b s = ap (later 0) (call_refused InvalidLog s)

-- what a call takes and leaves, with whatever stands behind the piece
abbrev Told : State → List ℕ → List ℕ → Call → Type 0
Told st s t c = (c.taken ≤ length s) × (read_from st (s ++ t) ≡ before (given c.said) c.taken (read_from c.state (drop c.taken s ++ t)))

at_end : (st : State) → given (said_at st) ≡ []
unfolding given said_at
at_end (number want v w) = refl
at_end (frame s n h) = refl
at_end (refused r) = refl
at_end ended = refl

-- one byte taken by a state that takes it
one_more : (st : State) (b : ℕ) (s t : List ℕ) → takes st ≡ 1 → ((st' : State) → Told st' s t (call st' s)) → Told st (b ∷ s) t (call st (b ∷ s))
unfolding read_from after answered given
one_more st b s t one rest = by (feed st b) refl
  where
    by : (f : Fed) → feed st b ≡ f → Told st (b ∷ s) t (call st (b ∷ s))
    by (on st') e =
        let c = call st' s in
        let r = rest st' in
        let k : takes st + c.taken ≡ suc c.taken = omega arith in
        rw (call_on st st' b s e) (
          omega (arith, r.0),
          ap (λ (f : Fed). before (answered f) (takes st) (read_from (after f) (s ++ t))) e
              ∙ ap (before [] (takes st)) r.1
              ∙ before_before [] (given c.said) (takes st) c.taken (read_from c.state (drop c.taken s ++ t))
              ∙ ap (λ (n : ℕ). before (given c.said) (takes st + c.taken) (read_from c.state (drop n (b ∷ s) ++ t))) (sym k),
        )
    by (entry x) e =
        rw (call_entry st x b s e) (
          omega arith,
          ap (λ (f : Fed). before (answered f) (takes st) (read_from (after f) (s ++ t))) e
              ∙ ap (λ (n : ℕ). before (x ∷ []) (takes st) (read_from boundary (drop n (b ∷ s) ++ t))) (sym one),
        )

ended_reads : (b : ℕ) (s : List ℕ) → read_from ended (b ∷ s) ≡ before [] 0 (read_from (refused InvalidLog) (b ∷ s))
unfolding read_from feed takes after answered
ended_reads b s = ap (before [] 0) (sym (before_nil (read_from (refused InvalidLog) s)))

pub call_reads : (st : State) (s t : List ℕ) → Told st s t (call st s)
unfolding call takes given said_at
call_reads st [] t = (omega arith, sym (ap (λ (x : List Entry). before x 0 (read_from st t)) (at_end st) ∙ before_nil (read_from st t)))
call_reads (number want v w) (b ∷ s) t = one_more (number want v w) b s t refl (λ st'. call_reads st' s t)
call_reads (frame x n h) (b ∷ s) t = one_more (frame x n h) b s t refl (λ st'. call_reads st' s t)
call_reads (refused r) (b ∷ s) t =
    rw (call_refused r (b ∷ s)) (omega arith, sym (before_nil (read_from (refused r) (b ∷ s ++ t))))
call_reads ended (b ∷ s) t =
    rw (call_ended b s) (omega arith, ended_reads b (s ++ t))

-- where a call gives no entry, it has come to the end of the reading of its piece
abbrev Ends : State → List ℕ → Type 0
Ends st s = given (call st s).said ≡ [] → read_from st s ≡ record { entries = []; state = (call st s).state; taken = (call st s).taken }

pub call_all : (st : State) (s : List ℕ) → Ends st s
unfolding call read_from after answered given
call_all st [] e = refl
call_all st (b ∷ s) e = by (feed st b) refl (λ st'. call_all st' s)
  where
    by : (f : Fed) → feed st b ≡ f → ((st' : State) → Ends st' s) → read_from st (b ∷ s) ≡ record { entries = []; state = (call st (b ∷ s)).state; taken = (call st (b ∷ s)).taken }
    by (on st') q rest =
        let none : given (call st' s).said ≡ [] = ap (λ (c : Call). given c.said) (sym (call_on st st' b s q)) ∙ e in
        rw (call_on st st' b s q)
        (ap (λ (f : Fed). before (answered f) (takes st) (read_from (after f) s)) q ∙ ap (before [] (takes st)) (rest st' none))
    by (entry x) q rest = absurd (nil≢cons (sym e ∙ ap (λ (c : Call). given c.said) (call_entry st x b s q)))

-- ---- any history

sum_left : (a u n d : ℕ) → u ≤ a → n ≤ u → d ≡ u - n → a - u + n ≡ a - d
sum_left a u n d p q e = omega arith

module _ {stream unread : List ℕ} {st : State} {es : List Entry} (k : length unread ≤ length stream)
    (so_far : (t : List ℕ) → reading (stream ++ t) ≡ before es (length stream - length unread) (read_from st (unread ++ t))) where
  -- the last field follows from the others
  settled : Faithful stream st unread es
  settled = record {
    taken = k;
    so_far = so_far;
    all = λ none.
        ap reading (sym (append-nil stream))
        ∙ so_far []
        ∙ ap (λ (u : List ℕ). before es (length stream - length unread) (read_from st u)) (append-nil unread)
        ∙ ap (before es (length stream - length unread)) (call_all st unread none)
        ∙ reading_is (append-nil es) refl;
  }

pub faithful : {stream unread : List ℕ} {st : State} {es : List Entry} → History stream st unread es → Faithful stream st unread es
faithful begin = settled (omega arith) (λ t. sym (before_nil (reading t)))
faithful (offer {stream} {unread} {st} {es} piece h) =
    let f = faithful h in
    let k = f.taken in
    let same : length stream - length unread ≡ length (stream ++ piece) - length (unread ++ piece) = omega (arith, length-append stream piece, length-append unread piece) in
    settled (omega (arith, length-append stream piece, length-append unread piece))
    (λ t.
    ap reading (append_assoc stream piece t)
    ∙ f.so_far (piece ++ t)
    ∙ ap₂ (λ (n : ℕ) (u : List ℕ). before es n (read_from st u)) same (sym (append_assoc unread piece t)))
faithful (ask {stream} {st} {es} input behind h) =
    let f = faithful h in
    let k = f.taken in
    let c = call st input in
    let fits : c.taken ≤ length input = (call_reads st input []).0 in
    let whole : length (input ++ behind) ≡ length input + length behind = length-append input behind in
    let left : length (drop c.taken input ++ behind) ≡ length (input ++ behind) - c.taken =
    length-append (drop c.taken input) behind ∙ omega (arith, length-drop c.taken input) in
    settled (omega arith)
    (λ t.
    f.so_far t
    ∙ ap (λ (u : List ℕ). before es (length stream - length (input ++ behind)) (read_from st u)) (append_assoc input behind t)
    ∙ ap (before es (length stream - length (input ++ behind))) (call_reads st input (behind ++ t)).1
    ∙ before_before es (given c.said) (length stream - length (input ++ behind)) c.taken (read_from c.state (drop c.taken input ++ (behind ++ t)))
    ∙ ap₂ (λ (n : ℕ) (u : List ℕ). before (es ++ given c.said) n (read_from c.state u))
    (sum_left (length stream) (length (input ++ behind)) c.taken (length (drop c.taken input ++ behind)) k (omega arith) left)
    (sym (append_assoc (drop c.taken input) behind t)))

-- two histories of one log, cut as they may, in which a call on all that is unread gives no more entries: the same entries, and the same end state
pub same_end : {stream unread unread₂ : List ℕ} {st st₂ : State} {es es₂ : List Entry}
    → History stream st unread es → History stream st₂ unread₂ es₂ → given (call st unread).said ≡ [] → given (call st₂ unread₂).said ≡ []
    → (es ≡ es₂) × ((call st unread).state ≡ (call st₂ unread₂).state)
same_end h h₂ e e₂ =
    let q = sym ((faithful h).all e) ∙ (faithful h₂).all e₂ in
    (ap (λ (r : Reading). r.entries) q, ap (λ (r : Reading). r.state) q)

-- a refusal that a call gives is where the reader then stands
pub call_stops : (st : State) (s : List ℕ) {r : Refusal} → (call st s).said ≡ refuses r → (call st s).state ≡ refused r
unfolding call said_at
call_stops st [] {r} e = at st e
  where
    at : (st : State) → said_at st ≡ refuses r → st ≡ refused r
    at (number want v w) q = absurd (let z : ◌≡◌ {A = ℕ} 0 1 = cc in omega arith)
    at (frame t n h) q = absurd (let z : ◌≡◌ {A = ℕ} 0 1 = cc in omega arith)
    at (refused k) q = cc
    at ended q = absurd (let z : ◌≡◌ {A = ℕ} 0 1 = cc in omega arith)
call_stops st (b ∷ s) {r} e = by (feed st b) refl (λ st' q. call_stops st' s q)
  where
    by : (f : Fed) → feed st b ≡ f → ((st' : State) → (call st' s).said ≡ refuses r → (call st' s).state ≡ refused r) → (call st (b ∷ s)).state ≡ refused r
    by (on st') q rest = rw (call_on st st' b s q) (rest st' (ap (λ (c : Call). c.said) (sym (call_on st st' b s q)) ∙ e))
    by (entry x) q rest = absurd (let z : ◌≡◌ {A = ℕ} 0 1 = cc (ap (λ (c : Call). c.said) (sym (call_entry st x b s q)) ∙ e) in omega arith)
