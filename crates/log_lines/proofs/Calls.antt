-- Calls of the reader over a part of a log, one after another.
-- Assumes nothing.
use mathlib.Core.Path.{◌≡◌, refl, sym, ap, ◌∙◌}
use mathlib.Core.List.{List, [], ◌∷◌, append-nil, nil≢cons}
use Prim.Native.Nat.{ℕ, ◌≤◌}
use native.Mathlib.Omega.{arith}
use lib.ListN.{length, drop}
use Rattle.refusals.specs.declared.Refusal.{Refusal}
use Rattle.refusals.specs.declared.Refusal.TheVariants.{InvalidLog}
use Rattle.kit_log.specs.Entry.{Entry}
use Rattle.kit_log.specs.Reading.{State, number, frame, refused, ended, Fed, on, entry, feed, takes, before, read_from}
use Rattle.kit_log.specs.Call.{said_at, refuses, Call, call, given}
use Rattle.kit_log.proofs.History.{call_on, call_entry, call_refused, call_ended, call_reads}

none_at : (st : State) → given (said_at st) ≡ []
unfolding given said_at
none_at (number want v w) = refl
none_at (frame s n h) = refl
none_at (refused r) = refl
none_at ended = refl

none_refused : (r : Refusal) → given (refuses r) ≡ []
unfolding given
none_refused r = refl

-- a call that gives an entry takes a byte at least
some_taken : (st : State) (b : ℕ) (s : List ℕ) → takes st ≡ 1 → 1 ≤ (call st (b ∷ s)).taken
some_taken st b s one = by (feed st b) refl
  where
    by : (f : Fed) → feed st b ≡ f → 1 ≤ (call st (b ∷ s)).taken
    by (on st') e = rw (call_on st st' b s e) (omega arith)
    by (entry x) e = rw (call_entry st x b s e) (omega arith)

pub takes_some : (st : State) (s : List ℕ) (e : Entry) (es : List Entry) → given (call st s).said ≡ e ∷ es → 1 ≤ (call st s).taken
unfolding call takes
takes_some st [] e es q = absurd (nil≢cons (sym (none_at st) ∙ q))
takes_some (number want v w) (b ∷ s) e es q = some_taken (number want v w) b s refl
takes_some (frame t n h) (b ∷ s) e es q = some_taken (frame t n h) b s refl
takes_some (refused r) (b ∷ s) e es q = absurd (nil≢cons (sym (ap (λ (c : Call). given c.said) (call_refused r (b ∷ s)) ∙ none_refused r) ∙ q))
takes_some ended (b ∷ s) e es q = absurd (nil≢cons (sym (ap (λ (c : Call). given c.said) (call_ended b s) ∙ none_refused InvalidLog) ∙ q))

-- where none is given, what is said is by where the reader has come
pub said_at_lem : (st : State) (s : List ℕ) → given (call st s).said ≡ [] → (call st s).said ≡ said_at (call st s).state
unfolding call given
said_at_lem st [] none = refl
said_at_lem st (b ∷ s) none = by (feed st b) refl (λ st' e. said_at_lem st' s e)
  where
    by : (f : Fed) → feed st b ≡ f → ((st' : State) → given (call st' s).said ≡ [] → (call st' s).said ≡ said_at (call st' s).state)
        → (call st (b ∷ s)).said ≡ said_at (call st (b ∷ s)).state
    by (on st') e rest = rw (call_on st st' b s e) (rest st' (ap (λ (c : Call). given c.said) (sym (call_on st st' b s e)) ∙ none))
    by (entry x) e rest = absurd (nil≢cons (sym none ∙ ap (λ (c : Call). given c.said) (call_entry st x b s e)))

-- what a call takes, and what is left for the next
pub takes_inside : (st : State) (s : List ℕ) → (call st s).taken ≤ length s
takes_inside st s = (call_reads st s []).0

pub read_on : (st : State) (s : List ℕ)
    → read_from st s ≡ (let c = call st s in before (given c.said) c.taken (read_from c.state (drop c.taken s)))
read_on st s =
    let c = call st s in
    ap (read_from st) (sym (append-nil s))
    ∙ (call_reads st s []).1
    ∙ ap (λ (l : List ℕ). before (given c.said) c.taken (read_from c.state l)) (append-nil (drop c.taken s))
