-- The reading of a log goes on: of s and then t, it is that of s and then that of t from where s left off.
-- Assumes nothing.
use mathlib.Core.Path.{◌≡◌, refl, sym, ap, ap₂, ◌∙◌}
use mathlib.Core.List.{List, [], ◌∷◌, ◌++◌, append_assoc}
use Prim.Native.Nat.{ℕ, ◌+◌}
use native.Mathlib.Nat.{zero-add, add_assoc}
use Rattle.refusals.specs.declared.Refusal.{Refusal}
use Rattle.kit_log.specs.Entry.{Entry}
use Rattle.kit_log.specs.Reading.{State, refused, feed, takes, after, answered, Reading, before, read_from}

pub reading_is : {es fs : List Entry} {st : State} {n m : ℕ} → es ≡ fs → n ≡ m
    → ◌≡◌ {A = Reading} (record { entries = es; state = st; taken = n }) (record { entries = fs; state = st; taken = m })
reading_is {st = st} p q = ap₂ (λ (x : List Entry) (k : ℕ). record { entries = x; state = st; taken = k }) p q

pub before_before : (es fs : List Entry) (n m : ℕ) (r : Reading) → before es n (before fs m r) ≡ before (es ++ fs) (n + m) r
before_before es fs n m r = reading_is (sym (append_assoc es fs r.entries)) (sym (add_assoc n m r.taken))

pub before_nil : (r : Reading) → before [] 0 r ≡ r
before_nil r = reading_is refl (zero-add r.taken)

pub goes_on : (st : State) (s t : List ℕ)
    → read_from st (s ++ t) ≡ before (read_from st s).entries (read_from st s).taken (read_from (read_from st s).state t)
unfolding read_from
goes_on st [] t = sym (before_nil (read_from st t))
goes_on st (b ∷ s) t =
    let st' = after (feed st b) in
    let r = read_from st' s in
    ap (before (answered (feed st b)) (takes st)) (goes_on st' s t)
    ∙ before_before (answered (feed st b)) r.entries (takes st) r.taken (read_from r.state t)

-- a refusal stays
pub stays_refused : (r : Refusal) (s : List ℕ) → read_from (refused r) s ≡ record { entries = []; state = refused r; taken = 0 }
unfolding read_from feed takes after answered
stays_refused r [] = refl
stays_refused r (b ∷ s) = ap (before [] 0) (stays_refused r s)
