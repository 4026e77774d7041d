-- A call takes 71 bytes at most, whatever stands in the piece, and leads from a state that a log leads to, to another.
-- Assumes nothing.
use mathlib.Core.Path.{◌≡◌, refl, sym, ap, ◌∙◌, subst}
use mathlib.Core.Bool.{true, ◌&&◌, and-eq-true_iff}
use mathlib.Core.List.{List, [], ◌∷◌, ◌++◌}
use Prim.Native.Nat.{ℕ, zero, suc, ◌+◌, ◌*◌, ◌-◌, ◌^◌, ◌≤◌, ◌<◌}
use native.Mathlib.Nat.{mul-le-mul_right}
use native.Mathlib.Omega.{arith}
use borrow.Author.Tests.{eqb-true, leb-true, ltb-true, ltb-false}
use lib.Dec.{eqb, leb, ltb}
use lib.ListN.{length}
use Rattle.base.proofs.Tests.{by_test}
use Rattle.refusals.specs.declared.Refusal.TheVariants.{InvalidLog}
use Rattle.groups.specs.Reading.{step}
use Rattle.groups.specs.declared.Step.{Step}
use Rattle.groups.proofs.Reading as groups
use Rattle.groups.proofs.Reading.{Case, cases}
use Rattle.reading.specs.Reading.{limit}
use Rattle.kit_log.specs.Entry.{Entry, greatest}
use Rattle.kit_log.specs.Reading.{Want, version, seconds, size, State, number, frame, refused, ended, Fed, on, entry, meaning, feed_number, fine, feed_frame, feed, takes}
use Rattle.kit_log.specs.Call.{Call, call}
use Rattle.kit_log.specs.Room.{Weight, Led, most_in, most}
use Rattle.kit_log.proofs.Agrees.{feed_part, feed_whole, feed_bad, snoc}
use Rattle.kit_log.proofs.History.{call_on, call_entry, call_refused, call_ended}
use Rattle.kit_log.proofs.Weights.{up_to_four, weight_next, weight_few, weight_high}

-- a state that is led to, on which a call takes less than k
record Below (k : ℕ) (st : State) : Type 0 where
  led : Led st
  less : most st led < k

-- ---- one byte of a number

abbrev first : Weight 1
first = record { groups = 0; few = omega arith; is = refl }

-- where that many groups have come, a call takes one byte at least; and one group more leaves less
some_left : (want : Want) (g : ℕ) → g ≤ 4 → 0 < most_in want g
some_left version = up_to_four (λ (g : ℕ). 0 < most_in version g) (omega arith) (omega arith) (omega arith) (omega arith) (omega arith)
some_left seconds = up_to_four (λ (g : ℕ). 0 < most_in seconds g) (omega arith) (omega arith) (omega arith) (omega arith) (omega arith)
some_left (size t) = up_to_four (λ (g : ℕ). 0 < most_in (size t) g) (omega arith) (omega arith) (omega arith) (omega arith) (omega arith)

one_fewer : (want : Want) (g : ℕ) → g ≤ 4 → g + 1 ≤ 4 → most_in want (g + 1) < most_in want g
one_fewer version =
    up_to_four (λ (g : ℕ). g + 1 ≤ 4 → most_in version (g + 1) < most_in version g) (λ h. omega arith) (λ h. omega arith) (λ h. omega arith) (λ h. omega arith)
    (λ (h : 5 ≤ 4). absurd (omega arith))
one_fewer seconds =
    up_to_four (λ (g : ℕ). g + 1 ≤ 4 → most_in seconds (g + 1) < most_in seconds g) (λ h. omega arith) (λ h. omega arith) (λ h. omega arith) (λ h. omega arith)
    (λ (h : 5 ≤ 4). absurd (omega arith))
one_fewer (size t) =
    up_to_four (λ (g : ℕ). g + 1 ≤ 4 → most_in (size t) (g + 1) < most_in (size t) g) (λ h. omega arith) (λ h. omega arith) (λ h. omega arith) (λ h. omega arith)
    (λ (h : 5 ≤ 4). absurd (omega arith))

refused_below : (want : Want) (g : ℕ) → g ≤ 4 → Below (most_in want g) (refused InvalidLog)
refused_below want g few = record { led = tt; less = some_left want g few }

-- a number of one group is anything below 128; of more, it is above
meaning_below : (want : Want) (g n : ℕ) → g ≤ 4 → (1 ≤ g → 128 ≤ n) → Below (most_in want g) (meaning want n)
unfolding meaning
meaning_below version g n few large =
    by_test (eqb n 1) (λ e. rw e (one_is g few (λ h. let l = large h in let n_is = eqb-true n 1 e in omega arith))) (λ e. rw e (refused_below version g few))
  where
    one_is : (g : ℕ) → g ≤ 4 → (1 ≤ g → ⊥) → Below (most_in version g) (number seconds 0 1)
    one_is zero few none = record { led = first; less = omega arith }
    one_is (suc g) few none = absurd (none (omega arith))
meaning_below seconds g n few large =
    record { led = first; less = up_to_four (λ (g : ℕ). 65 < most_in seconds g) (omega arith) (omega arith) (omega arith) (omega arith) (omega arith) g few }
meaning_below (size t) g n few large =
    by_test (leb 4 n && leb n limit) (λ e. rw e (size_is g few e large)) (λ e. rw e (record { led = tt; less = some_left (size t) g few }))
  where
    size_is : (g : ℕ) → g ≤ 4 → (leb 4 n && leb n limit) ≡ true → (1 ≤ g → 128 ≤ n) → Below (most_in (size t) g) (frame t n [])
    size_is zero few e large =
        let both = (and-eq-true_iff (leb 4 n) (leb n limit)).0 e in
        let low = leb-true 4 n both.0 in
        let high = leb-true n limit both.1 in
        record { led = (high, omega arith); less = omega arith }
    size_is (suc g) few e large =
        let high = leb-true n limit ((and-eq-true_iff (leb 4 n) (leb n limit)).0 e).1 in
        let l = large (omega arith) in
        absurd (omega arith)

number_below : (want : Want) (v w b : ℕ) (led : Weight w) → Below (most_in want led.groups) (feed_number want v w b)
unfolding feed_number
number_below want v w b led = by (cases greatest v w b) refl
  where
    by : {x : Step} → Case greatest v w b x → step greatest v w b ≡ x → Below (most_in want led.groups) (feed_number want v w b)
    by (groups.on high room) e =
        let room' : 128 * 128 ^ led.groups ≤ greatest = subst (λ (u : ℕ). 128 * u ≤ greatest) led.is room in
        let few = weight_few led.groups led.few room' in
        let next : 128 * w ≡ 128 ^ (led.groups + 1) = ap (λ (u : ℕ). 128 * u) led.is ∙ sym (weight_next led.groups led.few) in
        rw (e, feed_number) record { led = record { groups = led.groups + 1; few = few; is = next }; less = one_fewer want led.groups led.few few }
    by (groups.last low form small) e =
        rw (e, feed_number)
        (meaning_below want led.groups (v + b * w) led.few
        (λ h.
        let high : 128 ≤ w = rw led.is (weight_high led.groups led.few h) in
        let one : 1 ≤ b = form (omega arith) in
        let k : 1 * w ≤ b * w = mul-le-mul_right w one in
        omega arith))
    by (groups.many high none) e = rw (e, feed_number) (refused_below want led.groups led.few)
    by (groups.zero_last low after z) e = rw (e, feed_number) (refused_below want led.groups led.few)
    by (groups.large low form much) e = rw (e, feed_number) (refused_below want led.groups led.few)

-- ---- one byte of any state

-- a turn: an entry, which takes the byte, or another state that a log leads to, which takes less
data Turn (k : ℕ) : Fed → Type 0 where
  goes : {st : State} → Below k st → Turn k (on st)
  gives : {x : Entry} → 0 < k → Turn k (entry x)

frame_turn : (t n b : ℕ) (h : List ℕ) → n ≤ limit → length h < n → Turn (n - length h) (feed_frame t n (h ++ b ∷ []))
frame_turn t n b h high short =
    let h' = h ++ b ∷ [] in
    let one = snoc h b in
    by_test (fine n h')
    (λ f.
    by_test (ltb (length h') n)
    (λ l. subst (Turn (n - length h)) (sym (feed_part t n h' f (ltb-true _ _ l))) (goes (let less = ltb-true _ _ l in record { led = (high, less); less = omega arith })))
    (λ l. subst (Turn (n - length h)) (sym (feed_whole t n h' f (ltb-false _ _ l))) (gives (omega arith))))
    (λ f. subst (Turn (n - length h)) (sym (feed_bad t n h' f)) (goes (record { led = tt; less = omega arith })))

-- ---- a call

abbrev Takes : (st : State) → Led st → List ℕ → Type 0
Takes st led s = (call st s).taken ≤ most st led

one_byte : (st : State) (led : Led st) (b : ℕ) (s : List ℕ) → takes st ≡ 1 → {f : Fed} → feed st b ≡ f → Turn (most st led) f
    → ((st' : State) (led' : Led st') → Takes st' led' s) → Takes st led (b ∷ s)
one_byte st led b s one e (goes {st = st'} below) rest =
    let less = below.less in
    let k = rest st' below.led in
    let is : (call st (b ∷ s)).taken ≡ takes st + (call st' s).taken = ap (λ (c : Call). c.taken) (call_on st st' b s e) in
    omega arith
one_byte st led b s one e (gives {x} some) rest =
    let is : (call st (b ∷ s)).taken ≡ takes st = ap (λ (c : Call). c.taken) (call_entry st x b s e) in
    omega arith

pub call_most : (st : State) (led : Led st) (s : List ℕ) → (call st s).taken ≤ most st led
unfolding call feed takes
call_most st led [] = omega arith
call_most (number want v w) led (b ∷ s) =
    one_byte (number want v w) led b s refl refl (goes (number_below want v w b led)) (λ st' led'. call_most st' led' s)
call_most (frame t n h) led (b ∷ s) = one_byte (frame t n h) led b s refl refl (frame_turn t n b h led.0 led.1) (λ st' led'. call_most st' led' s)
call_most (refused r) led (b ∷ s) = let is : (call (refused r) (b ∷ s)).taken ≡ 0 = ap (λ (c : Call). c.taken) (call_refused r (b ∷ s)) in omega arith
call_most ended led (b ∷ s) = let is : (call ended (b ∷ s)).taken ≡ 0 = ap (λ (c : Call). c.taken) (call_ended b s) in omega arith

most_in_lem : (want : Want) (g : ℕ) → g ≤ 4 → most_in want g ≤ 71
most_in_lem version = up_to_four (λ (g : ℕ). most_in version g ≤ 71) (omega arith) (omega arith) (omega arith) (omega arith) (omega arith)
most_in_lem seconds = up_to_four (λ (g : ℕ). most_in seconds g ≤ 71) (omega arith) (omega arith) (omega arith) (omega arith) (omega arith)
most_in_lem (size t) = up_to_four (λ (g : ℕ). most_in (size t) g ≤ 71) (omega arith) (omega arith) (omega arith) (omega arith) (omega arith)

pub most_71 : (st : State) (led : Led st) → most st led ≤ 71
most_71 (number want v w) led = most_in_lem want led.groups led.few
most_71 (frame t n h) led = let high = led.0 in omega arith
most_71 (refused r) led = omega arith
most_71 ended led = omega arith

-- a call takes 71 bytes at most
pub at_most_71 : (st : State) → Led st → (s : List ℕ) → (call st s).taken ≤ 71
at_most_71 st led s = omega (arith, call_most st led s, most_71 st led)
