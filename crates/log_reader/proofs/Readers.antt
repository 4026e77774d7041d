-- What the code's reader stands for, at each return of its functions.
-- Assumes nothing.
use mathlib.Core.Path.{◌≡◌, refl, sym, ap, ◌∙◌}
use mathlib.Core.Bool.{Bool, true, false, not, and-eq-true_iff}
use mathlib.Core.Logic.{◌⊎◌, inl, inr}
use mathlib.Core.List.{List}
use Prim.Native.Nat.{ℕ, zero, suc, ◌+◌, ◌*◌, ◌%◌, ◌^◌, ◌≤◌, ◌<◌}
use native.Mathlib.Omega.{arith}
use borrow.Author.Tests.{ltb-true, ltb-false, lt-ltb, le-ltb, le-leb, leb-true, eqb-true, eq-eqb, ne_eqb}
use lib.Dec.{ltb, leb, eqb}
use lib.ListN.{length, get_or, take}
use lib.Seq.{length-take-le, get_or-take}
use Rattle.base.specs.Choice.{when◌then◌else◌}
use Rattle.base.proofs.Tests.{by_test}
use Rattle.refusals.specs.Row.{number_of}
use Rattle.refusals.specs.declared.Refusal.{Refusal}
use Rattle.refusals.specs.declared.Refusal.TheVariants.{InvalidLog, InvalidFrame}
use Rattle.refusals.proofs.Rows.{back}
use Rattle.packets.specs.Listed.{listed}
use Rattle.groups.specs.Reading.{step, step_of}
use Rattle.groups.specs.declared.Step.{Step}
use Rattle.groups.specs.declared.Step.TheVariants.{GoesOn, Done, Malformed}
use Rattle.groups.proofs.Reading.{step_done, on_below, on_weight, done_small}
use Rattle.reading.specs.Reading.{limit}
use Rattle.kit_log.specs.Entry.{greatest}
use Rattle.kit_log.specs.Reading.{State, number, refused, meaning, fine, feed_number}
use Rattle.kit_log.proofs.Agrees.{size_means, no_size}
use Rattle.kit_log.proofs.Weights.{weight_next, weight_few, weight_low}
use Rattle.log_reader.specs.State.{want_of, weight_of, can_go_on, held_fine, of_logs, standing, is_state}
use Rattle.log_reader.specs.Parts.{Is, Means, FedNumber}
use Rattle.log_reader.specs.declared.Wanted.{Wanted}
use Rattle.log_reader.specs.declared.Wanted.TheVariants.{Version, Seconds, Size}
use Rattle.log_reader.specs.declared.Reader.{Reader}
use Rattle.log_reader.specs.declared.Reader.TheVariants.{Number, Frame, Refused, Ended}

-- ---- the bytes held

module _ (n k : ℕ) (p : List ℕ) (short : k < n) (room : n ≤ length p) where
  -- of a part of a frame, only the first two bytes matter
  abbrev two_bytes : Bool
  two_bytes = when not (listed (get_or p 0 0)) then false else when ltb k 2 then true else eqb (get_or p 1 0 + 2) n

  fine_held : 1 ≤ k → fine n (take k p) ≡ two_bytes
  unfolding fine
  fine_held some =
      let size : length (take k p) ≡ k = length-take-le k p (omega arith) in
      let first : get_or (take k p) 0 0 ≡ get_or p 0 0 = get_or-take k p 0 0 some in
      by_test (ltb k 2) (λ t. simp (size, first, t))
      (λ t.
      let two = ltb-false k 2 t in
      let second : get_or (take k p) 1 0 ≡ get_or p 1 0 = get_or-take k p 1 0 two in
      by_test (eqb (get_or p 1 0 + 2) n) (λ u. simp (size, first, second, t, u, lt-ltb k n short)) (λ u. simp (size, first, second, t, u)))

  held_is : (k ≡ 0 → ⊥) → held_fine n p k ≡ two_bytes
  held_is h = simp (ne_eqb k 0 h) (fine_held (some k h))
    where
      some : (k : ℕ) → (k ≡ 0 → ⊥) → 1 ≤ k
      some zero h = absurd (h refl)
      some (suc k) h = omega arith

  pub held_none : k ≡ 0 → true ≡ held_fine n p k
  held_none e = simp (eq-eqb k 0 e)

  pub held_unlisted : (k ≡ 0 → ⊥) → listed (get_or p 0 0) ≡ false → false ≡ held_fine n p k
  held_unlisted h e = rw (held_is h, e)

  pub held_one : (k ≡ 0 → ⊥) → listed (get_or p 0 0) ≡ true → k < 2 → true ≡ held_fine n p k
  held_one h e one = rw (held_is h, e, lt-ltb k 2 one)

  pub held_two : (k ≡ 0 → ⊥) → listed (get_or p 0 0) ≡ true → 2 ≤ k → eqb (get_or p 1 0 + 2) n ≡ held_fine n p k
  held_two h e two = rw (held_is h, e, le-ltb k 2 two)

-- ---- states

pub of_logs_9 : of_logs InvalidLog ≡ true
unfolding of_logs
of_logs_9 = refl

pub of_logs_10 : of_logs InvalidFrame ≡ true
unfolding of_logs
of_logs_10 = refl

-- a refusal by its number
pub nine : (r : Refusal) → number_of r ≡ 9 → r ≡ InvalidLog
nine r e = sym (back r) ∙ rw e

pub ten : (r : Refusal) → number_of r ≡ 10 → r ≡ InvalidFrame
ten r e = sym (back r) ∙ rw e

pub not_of_logs : (r : Refusal) → (r ≡ InvalidLog → ⊥) → (r ≡ InvalidFrame → ⊥) → of_logs r ≡ false
unfolding of_logs
not_of_logs r h k = simp (ne_eqb (number_of r) 9 (λ e. h (nine r e)), ne_eqb (number_of r) 10 (λ e. k (ten r e)))

-- .. and only they are of logs
pub of_logs_says : (r : Refusal) → of_logs r ≡ true → (r ≡ InvalidLog) ⊎ (r ≡ InvalidFrame)
unfolding of_logs
of_logs_says r e =
    by_test (eqb (number_of r) 9) (λ t. inl (nine r (eqb-true _ 9 t))) (λ t. inr (ten r (eqb-true _ 10 (simp t at e))))

module _ (p : List ℕ) (st : Reader) where
  module _ (room : limit ≤ length p) where
    enough : leb limit (length p) ≡ true
    enough = le-leb limit (length p) room

    pub state_is : is_state p st ≡ standing p st
    unfolding is_state
    state_is = simp enough

    pub state_number : {wanted : Wanted} {v g : ℕ} → st ≡ Number wanted v g → can_go_on v g ≡ is_state p st
    state_number e = rw (state_is, e)

    pub state_refused : {r : Refusal} → st ≡ Refused r → of_logs r ≡ is_state p st
    state_refused e = rw (state_is, e)

    pub state_ended : st ≡ Ended → true ≡ is_state p st
    state_ended e = rw (state_is, e)

    module _ {t n k : ℕ} (e : st ≡ Frame t n k) where
      pub state_held : 4 ≤ n → n ≤ limit → k < n → held_fine n p k ≡ is_state p st
      state_held low high h = rw (state_is, e) (simp (le-leb 4 n low, le-leb n limit high, lt-ltb k n h))

-- readers that stand over any places that are enough
pub stands_refused : (p : List ℕ) (r : Refusal) → limit ≤ length p → of_logs r ≡ true → is_state p (Refused r) ≡ true
stands_refused p r room e = sym (state_refused p (Refused r) room refl) ∙ e

pub stands_fresh : (p : List ℕ) (wanted : Wanted) → limit ≤ length p → is_state p (Number wanted 0 0) ≡ true
stands_fresh p wanted room = sym (state_number p (Number wanted 0 0) room refl)

-- what a state that is one tells
pub state_room : (p : List ℕ) (st : Reader) → is_state p st ≡ true → limit ≤ length p
unfolding is_state
state_room p st e = leb-true limit (length p) ((and-eq-true_iff (leb limit (length p)) (standing p st)).0 e).0

pub state_standing : (p : List ℕ) (st : Reader) → is_state p st ≡ true → standing p st ≡ true
unfolding is_state
state_standing p st e = ((and-eq-true_iff (leb limit (length p)) (standing p st)).0 e).1

-- ---- what a group is worth

pub shifted : (g : ℕ) → g ≤ 4 → 1 * 2 ^ (7 * g) % 18446744073709551616 ≡ 128 ^ g
shifted zero h = refl
shifted (suc zero) h = refl
shifted (suc (suc zero)) h = refl
shifted (suc (suc (suc zero))) h = refl
shifted (suc (suc (suc (suc zero)))) h = refl
shifted (suc (suc (suc (suc (suc g))))) h = absurd (omega arith)

-- ---- a number that is begun

module _ (v g : ℕ) (state : can_go_on v g ≡ true) where
  both_tests : (leb g 4 ≡ true) × (ltb v (weight_of g) ≡ true)
  both_tests = (and-eq-true_iff (leb g 4) (ltb v (weight_of g))).0 state

  pub few_groups : g ≤ 4
  few_groups = leb-true g 4 both_tests.0

  pub below_weight : v < weight_of g
  below_weight = ltb-true v (weight_of g) both_tests.1

pub can_go_on_lem : (v g : ℕ) → g ≤ 4 → v < weight_of g → can_go_on v g ≡ true
can_go_on_lem v g few below = (and-eq-true_iff (leb g 4) (ltb v (weight_of g))).1 (le-leb g 4 few, lt-ltb v (weight_of g) below)

-- ---- what a number means

is_refused_lem : (r : Refusal) → of_logs r ≡ true → Is (Refused r) (refused r)
is_refused_lem r e = record { stands_for = λ p room. refl; is_one = λ p room. stands_refused p r room e }

is_number : (wanted : Wanted) (v g : ℕ) → can_go_on v g ≡ true → Is (Number wanted v g) (number (want_of wanted) v (weight_of g))
is_number wanted v g h = record { stands_for = λ p room. refl; is_one = λ p room. sym (state_number p (Number wanted v g) room refl) ∙ h }

-- a state that is another
pub is_also : {r : Reader} {st st₂ : State} → st ≡ st₂ → Is r st → Is r st₂
is_also e h = record { stands_for = λ p room. h.stands_for p room ∙ e; is_one = h.is_one }

pub means_no_frame : (t n : ℕ) → (n < 4) ⊎ (limit < n) → Means (Size t) n (Refused InvalidFrame)
means_no_frame t n h = is_also (sym (no_size t n h)) (is_refused_lem InvalidFrame of_logs_10)

pub means_frame : (t n : ℕ) → 4 ≤ n → n ≤ limit → Means (Size t) n (Frame t n 0)
means_frame t n low high =
    is_also (sym (size_means t n low high)) (record { stands_for = λ p room. refl; is_one = λ p room. sym (state_held p (Frame t n 0) room refl low high (omega arith)) })

pub means_one : (n : ℕ) → n ≡ 1 → Means Version n (Number Seconds 0 0)
unfolding meaning
means_one n e = is_also (sym (simp (eq-eqb n 1 e))) (is_number Seconds 0 0 refl)

pub means_other : (n : ℕ) → (n ≡ 1 → ⊥) → Means Version n (Refused InvalidLog)
unfolding meaning
means_other n e = is_also (sym (simp (ne_eqb n 1 e))) (is_refused_lem InvalidLog of_logs_9)

pub means_seconds : (n : ℕ) → Means Seconds n (Number (Size n) 0 0)
unfolding meaning
means_seconds n = is_number (Size n) 0 0 refl

-- ---- one byte of a number

module _ (wanted : Wanted) (v g b : ℕ) (state : can_go_on v g ≡ true) {x : Step} {u : ℕ} (u-is : u ≡ weight_of g) (e : x ≡ step_of greatest v u b) where
  abbrev w : ℕ
  w = weight_of g

  the_step : step greatest v w b ≡ x
  the_step = sym (rw u-is at e ∙ simp (lt-ltb v w (below_weight v g state)))

  module _ {v₂ w₂ : ℕ} (byte : b < 256) (q : x ≡ GoesOn v₂ w₂) where
    weight_is : (w₂ ≡ 128 * w) × (128 * w ≤ greatest)
    weight_is = on_weight greatest v w b v₂ w₂ (the_step ∙ q)

    pub goes_few : g + 1 ≤ 4
    goes_few = weight_few g (few_groups v g state) weight_is.1

    next_weight : w₂ ≡ weight_of (g + 1)
    next_weight = weight_is.0 ∙ sym (weight_next g (few_groups v g state))

    pub goes_below : v₂ < weight_of (g + 1)
    goes_below = rw next_weight at (on_below greatest v w b v₂ w₂ (below_weight v g state) byte (the_step ∙ q))

    pub goes_fits : v₂ < 268435456
    goes_fits = let low = weight_low (g + 1) goes_few in let less = goes_below in omega arith

    pub number_goes : FedNumber wanted v g b (Number wanted v₂ (g + 1))
    unfolding feed_number
    number_goes =
        is_also (ap (number (want_of wanted) v₂) (sym next_weight) ∙ sym (rw (the_step ∙ q, feed_number))) (is_number wanted v₂ (g + 1) (can_go_on_lem v₂ (g + 1) goes_few goes_below))

  pub number_small : {n : ℕ} → x ≡ Done n → n ≤ greatest
  number_small {n} q = done_small greatest v w b n (the_step ∙ q)

  pub number_done : {n : ℕ} {r : Reader} → x ≡ Done n → Means wanted n r → FedNumber wanted v g b r
  unfolding feed_number
  number_done q m = is_also (sym (rw (the_step ∙ q, feed_number))) m

  pub number_bad : x ≡ Malformed → FedNumber wanted v g b (Refused InvalidLog)
  unfolding feed_number
  number_bad q = is_also (sym (rw (the_step ∙ q, feed_number))) (is_refused_lem InvalidLog of_logs_9)

-- a number of one group
pub number_one : (wanted : Wanted) (v g b : ℕ) → can_go_on v g ≡ true → g ≡ 0 → b < 128 → {r : Reader} → Means wanted b r → FedNumber wanted v g b r
unfolding feed_number
number_one wanted v g b state e low m =
    let below : v < 128 ^ g = below_weight v g state in
    let one : 128 ^ g ≡ 1 = rw e refl in
    let none : v ≡ 0 = omega arith in
    let done : step greatest v (128 ^ g) b ≡ Done b =
    ap (λ (w : ℕ). step greatest v w b) one ∙ step_done greatest v 1 b low (λ (h : 1 < 1). absurd (omega arith)) (omega arith) ∙ ap Done (omega arith) in
    is_also (sym (rw (done, feed_number))) m
