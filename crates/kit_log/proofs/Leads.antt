-- Each state that can go on is one that some log leads to.
-- Assumes nothing.
use mathlib.Core.Path.{◌≡◌, sym, ap, ap₂, ◌∙◌}
use mathlib.Core.Logic.{◌⊎◌, inl, inr}
use mathlib.Core.List.{List, [], ◌∷◌}
use Prim.Native.Nat.{ℕ, zero, suc, ◌+◌, ◌*◌, ◌/◌, ◌%◌, ◌-◌, ◌^◌, ◌≤◌, ◌<◌}
use native.Mathlib.Nat.{div-add-mod', div-lt_iff_lt-mul, pow-suc}
use native.Mathlib.Omega.{arith}
use lib.Dec.{lit<, lit≤}
use lib.ListN.{length}
use Rattle.refusals.specs.declared.Refusal.TheVariants.{InvalidLog, InvalidFrame}
use Rattle.groups.specs.Reading.{step, unfinished, run, read}
use Rattle.groups.specs.declared.Step.TheVariants.{GoesOn}
use Rattle.groups.proofs.Reading.{step_on, run_on}
use Rattle.reading.specs.Reading.{limit}
use Rattle.kit_log.specs.Entry.{Entry, greatest, log_bytes}
use Rattle.kit_log.specs.Reading.{Want, version, seconds, size, State, number, frame, refused, ended, Reading, reading, finish}
use Rattle.kit_log.specs.Strings.{Begins, in_seconds, in_size, not_size, in_frame, Reads, one, in_version, not_one}
use Rattle.kit_log.specs.Room.{Behind}
use Rattle.kit_log.proofs.Agrees.{only}
use Rattle.kit_log.proofs.Laws.{written_accepted}
use Rattle.kit_log.proofs.Weights.{up_to_four, weight_next}

-- ---- the bytes of a number that goes on behind them

begun : ℕ → ℕ → List ℕ
begun zero v = []
begun (suc g) v = (v % 128 + 128) ∷ begun g (v / 128)

-- a group and those behind it are worth what the number is
worth : (j : ℕ) → j ≤ 4 → (q r : ℕ) → r * 128 ^ j + q * 128 ^ (j + 1) ≡ (q * 128 + r) * 128 ^ j
worth =
    up_to_four (λ (j : ℕ). (q r : ℕ) → r * 128 ^ j + q * 128 ^ (j + 1) ≡ (q * 128 + r) * 128 ^ j) (λ q r. omega arith) (λ q r. omega arith) (λ q r. omega arith)
    (λ q r. omega arith) (λ q r. omega arith)

room : (j : ℕ) → j ≤ 4 → j + 1 ≤ 4 → 128 * 128 ^ j ≤ greatest
room =
    up_to_four (λ (j : ℕ). j + 1 ≤ 4 → 128 * 128 ^ j ≤ greatest) (λ h. omega arith) (λ h. omega arith) (λ h. omega arith) (λ h. omega arith)
    (λ (h : 5 ≤ 4). absurd (omega arith))

run_begun : (g j a m : ℕ) → m < 128 ^ g → j + g ≤ 4 → run greatest a (128 ^ j) (begun g m) ≡ unfinished (a + m * 128 ^ j) (128 ^ (j + g))
unfolding begun run
run_begun zero j a m small few =
    let m_is : m ≡ 0 = omega arith in
    ap₂ (λ (x k : ℕ). unfinished x (128 ^ k)) (sym (rw m_is (omega arith))) (omega arith)
run_begun (suc g) j a m small few =
    let b = m % 128 + 128 in
    let next = weight_next j (omega arith) in
    let r : b - 128 ≡ m % 128 = omega arith in
    let steps : step greatest a (128 ^ j) b ≡ GoesOn (a + (b - 128) * 128 ^ j) (128 * 128 ^ j) = step_on greatest a (128 ^ j) b (omega arith) (room j (omega arith) (omega arith)) in
    let less : m / 128 < 128 ^ g = (div-lt_iff_lt-mul {k = 128} {x = m} {y = 128 ^ g} (lit< tt)).1 (pow g small) in
    let ends : j + 1 + g ≡ j + suc g = omega arith in
    run_on greatest a (128 ^ j) b (begun g (m / 128)) steps
    ∙ ap₂ (λ (x w : ℕ). run greatest (a + x * 128 ^ j) w (begun g (m / 128))) r (sym next)
    ∙ run_begun g (j + 1) (a + m % 128 * 128 ^ j) (m / 128) less (omega arith)
    ∙ ap₂ (λ (x k : ℕ). unfinished x (128 ^ k)) (sum (m % 128 * 128 ^ j) (m / 128 * 128 ^ (j + 1)) (m * 128 ^ j) (worth j (omega arith) (m / 128) (m % 128) ∙ ap (λ (x : ℕ). x * 128 ^ j) (div-add-mod' m 128))) ends
  where
    sum : (x y z : ℕ) → x + y ≡ z → a + x + y ≡ a + z
    sum x y z e = omega arith

    pow : (g : ℕ) → m < 128 ^ suc g → m < 128 ^ g * 128
    pow g h = rw pow-suc at h

read_begun : (g v : ℕ) → v < 128 ^ g → g ≤ 4 → read greatest (begun g v) ≡ unfinished v (128 ^ g)
read_begun g v small few = run_begun g 0 0 v small (omega arith) ∙ ap₂ (λ (x k : ℕ). unfinished x (128 ^ k)) (omega arith) (omega arith)

-- ---- a log for each state

-- this log leads there; or it does so at its end
pub record LedTo (st : State) : Type 0 where
  pub log : List ℕ
  pub leads : ((reading log).state ≡ st) ⊎ (finish (reading log).state ≡ st)

leads_to : {s : List ℕ} {es : List Entry} {st : State} {k : ℕ} → Reads s es st k → LedTo st
leads_to {s} r = record { log = s; leads = inl (ap (λ (x : Reading). x.state) (only r)) }

pub number_led : (want : Want) (v g : ℕ) → v < 128 ^ g → g ≤ 4 → Behind want → LedTo (number want v (128 ^ g))
number_led version v g small few behind = leads_to (in_version (begun g v) v (128 ^ g) (read_begun g v small few))
number_led seconds v g small few behind = leads_to (one (in_seconds (begun g v) v (128 ^ g) (read_begun g v small few)))
number_led (size t) v g small few behind = leads_to (one (in_size t (begun g v) v (128 ^ g) behind (read_begun g v small few)))

pub frame_led : (t n : ℕ) (h : List ℕ) → t ≤ greatest → 4 ≤ n → n ≤ limit → Begins n h → length h < n → LedTo (frame t n h)
frame_led t n h small low high begins short = leads_to (one (in_frame t n h small low high begins short))

pub nine_led : LedTo (refused InvalidLog)
nine_led = leads_to (not_one 0 [] (lit≤ tt) (λ (e : 0 ≡ 1). omega arith))

pub ten_led : LedTo (refused InvalidFrame)
ten_led = leads_to (one (not_size 0 0 [] (lit≤ tt) (lit≤ tt) (inl (lit< tt))))

pub ended_led : LedTo ended
unfolding finish
ended_led = record { log = log_bytes []; leads = inr (written_accepted [] tt) }
