-- The formula gives the exact number, for every raw value up to 2047: one test, computed at each of the 2048.
-- Assumes nothing.
use mathlib.Core.Bool.{Bool}
use Prim.Native.Nat.{ℕ, ◌+◌, ◌*◌, ◌/◌, ◌%◌, ◌^◌, ◌<◌}
use native.Mathlib.Omega.{arith}
use lib.Dec.{T, leb, eqb, leb→le, eqb→eq}
use lib.IntN.{pos}
use lib.Count.{count_trailing_zeros}
use lib.Ieee.{Float, binary32, add, sub, mul, div, neg, sum, of_int, of_bits, of_fields, to_bits, round, units, odd, size, span, climb}
use Rattle.micros.specs.Micros.{EightTimes, eighths}
use Rattle.base.proofs.Every.{both, both_left, both_right, every, within}

-- the f32 that the code computes; its constants are the bits of 992, 5, 8 and 1500
abbrev pub formula : ℕ → Float
formula x =
    add binary32
    (div binary32
    (mul binary32 (sub binary32 (of_int binary32 (pos x)) (of_bits binary32 1148715008)) (of_bits binary32 1084227584))
    (of_bits binary32 1090519040))
    (of_bits binary32 1153138688)

-- `EightTimes`, as a test
abbrev passes : ℕ → ℕ → Bool
passes bits n =
    both (leb 1 (bits / 2 ^ 23))
    (both (leb (bits / 2 ^ 23) 254) (eqb ((2 ^ 23 + bits % 2 ^ 23) * 2 ^ (bits / 2 ^ 23) * 8) (n * 2 ^ 150)))

passed : (bits n : ℕ) → T (passes bits n) → EightTimes bits n
passed bits n t =
    let e = bits / 2 ^ 23 in
    let last = eqb ((2 ^ 23 + bits % 2 ^ 23) * 2 ^ (bits / 2 ^ 23) * 8) (n * 2 ^ 150) in
    let rest = both_right (leb 1 e) (both (leb e 254) last) t in
    record {
      above_zero = leb→le 1 e (both_left (leb 1 e) (both (leb e 254) last) t);
      finite = leb→le e 254 (both_left (leb e 254) last rest);
      exact = eqb→eq _ _ (both_right (leb e 254) last rest);
    }

computed : T (every (λ x. passes (to_bits binary32 (formula x)) (eighths x)) 0 2048)
unfolding add sub mul div neg sum of_int of_bits of_fields to_bits round units odd size span climb count_trailing_zeros
computed = tt

pub exact : (x : ℕ) → x < 2048 → EightTimes (to_bits binary32 (formula x)) (eighths x)
exact x h =
    passed (to_bits binary32 (formula x)) (eighths x) (within (λ x. passes (to_bits binary32 (formula x)) (eighths x)) 0 2048 computed x (omega arith) h)
