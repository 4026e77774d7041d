-- The promise leaves one row: bits whose exact number is known are known.
-- Assumes nothing.
use mathlib.Core.Path.{◌≡◌, sym, ap, ◌∙◌, subst₂}
use mathlib.Core.List.{List}
use mathlib.Core.Logic.{inl, inr}
use Prim.Native.Nat.{ℕ, ◌+◌, ◌*◌, ◌/◌, ◌%◌, ◌^◌, ◌≤◌, ◌<◌}
use native.Mathlib.Nat.{lt_irrefl, lt_of_lt_of_le, lt_of_not-le, le_antisymm, le_of_suc-le-suc, mul-le-mul, mul-lt-mul_of_pos_right, mul_assoc, eq_of_mul-eq-mul_right, pow-succ'}
use native.Mathlib.Omega.{arith}
use lib.Pow.{pow_pos, pow_mono}
use Rattle.base.proofs.Unique.{OneAnswer, same}
use Rattle.micros.specs.Micros.{exact_row, microseconds_row, EightTimes, eighths, Answers}
use Rattle.micros.proofs.to_microseconds.Reads as to-microseconds

-- of two equal numbers, one with at most 24 digits before its power of 2 has no lower a power than one with at least 24
no_lower : (m e m' e' : ℕ) → m < 2 ^ 24 → 2 ^ 23 ≤ m' → m * 2 ^ e ≡ m' * 2 ^ e' → e' ≤ e
no_lower m e m' e' few many same = le_of_suc-le-suc (lt_of_not-le (λ (lower : e < e'). lt_irrefl (m * 2 ^ e) (above lower)))
  where
    above : e < e' → m * 2 ^ e < m * 2 ^ e
    above lower =
        lt_of_lt_of_le (mul-lt-mul_of_pos_right few (pow_pos e))
        (subst₂ (λ (a b : ℕ). a ≤ b) (ap (λ (p : ℕ). 2 ^ 23 * p) (pow-succ' 2 e) ∙ sym (mul_assoc (2 ^ 23) 2 (2 ^ e))) (sym same)
        (mul-le-mul many (pow_mono lower)))

pub one_pattern : (bits bits' n : ℕ) → EightTimes bits n → EightTimes bits' n → bits ≡ bits'
one_pattern b b' n p q =
    let m = 2 ^ 23 + b % 2 ^ 23 in
    let m' = 2 ^ 23 + b' % 2 ^ 23 in
    let e = b / 2 ^ 23 in
    let e' = b' / 2 ^ 23 in
    let same : m * 2 ^ e ≡ m' * 2 ^ e' = eq_of_mul-eq-mul_right 8 (omega arith) (m * 2 ^ e) (m' * 2 ^ e') (p.exact ∙ sym q.exact) in
    let power : e ≡ e' = le_antisymm (no_lower m' e' m e (omega arith) (omega arith) (sym same)) (no_lower m e m' e' (omega arith) (omega arith) same) in
    let digits : m ≡ m' = eq_of_mul-eq-mul_right (2 ^ e') (pow_pos e') m m' (ap (λ (k : ℕ). m * 2 ^ k) (sym power) ∙ same) in
    omega (arith, power, digits)

pub one_row : (x : ℕ) {row row' : List ℕ} → Answers x row → Answers x row' → row ≡ row'
one_row x (inl p) (inl q) = p.said ∙ ap exact_row (one_pattern p.bits q.bits (eighths x) p.exact q.exact) ∙ sym q.said
one_row x (inl p) (inr q) = absurd (omega (arith, p.within, q.above))
one_row x (inr p) (inl q) = absurd (omega (arith, p.above, q.within))
one_row x (inr p) (inr q) = same p.said q.said

pub to_microseconds_one : OneAnswer {Seen = List ℕ} to-microseconds.Post (λ κs r s. microseconds_row r)
to_microseconds_one κs a r r' s s' = one_row a.0
