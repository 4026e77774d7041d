-- The test's returns: which fact of a valid frame fails, or that all hold.
-- Assumes nothing.
use mathlib.Core.Path.{◌≡◌, refl, sym, ap, ◌∙◌}
use mathlib.Core.Bool.{Bool, true, false, true≢false}
use mathlib.Core.List.{List}
use Prim.Native.Nat.{ℕ, ◌+◌, ◌-◌, ◌≤◌, ◌<◌}
use native.Mathlib.Omega.{arith}
use borrow.Author.Tests.{eqb-true, eqb-false}
use lib.Dec.{eqb}
use lib.ListN.{length, get_or, take, drop}
use Rattle.base.proofs.Parts.{drop_take}
use Rattle.crc.specs.Remainder.{remainder}
use Rattle.crc.specs.Check.{check_of}
use Rattle.crc.specs.Check.{Check}
use Rattle.packets.specs.Listed.{listed}
use Rattle.reading.specs.Answer.{calculated, carried}
use Rattle.reading.specs.Frame.{Valid}
use Rattle.reading.proofs.Frame.{Shape, valid_shape, shape_valid}
use Rattle.std.specs.Prelude.{is_ok}
use Rattle.valid.specs.Valid.{Decides}

-- a decision is one or the other
decided_by : {P : Type 0} (r r' : Bool) → Decides P r → Decides P r' → r ≡ r'
decided_by true true d d' = refl
decided_by true false d d' = sym (d'.no (d.yes refl))
decided_by false true d d' = d.no (d'.yes refl)
decided_by false false d d' = refl

pub one_decision : {P : Type 0} {r r' : Bool} → Decides P r → Decides P r' → r ≡ r'
one_decision {r = r} {r' = r'} = decided_by r r'

module _ (m : ℕ) (c : List ℕ) where
  -- some fact of a valid frame does not hold
  decides_no : (Shape m c → ⊥) → Decides (Valid m c) false
  decides_no none = record { yes = λ e. absurd (true≢false (sym e)); no = λ v. absurd (none (valid_shape m c v)) }

  pub too_short_lem : length c < 4 → Decides (Valid m c) false
  too_short_lem h = decides_no (λ s. omega (arith, s.four))

  pub too_long : m < length c → Decides (Valid m c) false
  too_long h = decides_no (λ s. omega (arith, s.most))

  pub unlisted : listed (get_or c 0 0) ≡ false → Decides (Valid m c) false
  unlisted e = decides_no (λ s. true≢false (sym s.address ∙ e))

  pub other_size : (get_or c 1 0 + 2 ≡ length c → ⊥) → Decides (Valid m c) false
  other_size differs = decides_no (λ s. differs s.size)

  module _ (four : 4 ≤ length c) (most : length c ≤ m) (address : listed (get_or c 0 0) ≡ true) (size : get_or c 1 0 + 2 ≡ length c) where
    covered_is : calculated c ≡ remainder (take (length c - 1 - 2) (drop 2 c))
    covered_is = ap remainder (drop_take 2 (length c - 1) c)

    by_check : (b : Bool) → eqb (remainder (take (length c - 1 - 2) (drop 2 c))) (carried c) ≡ b → {check : Check}
        → check ≡ check_of (remainder (take (length c - 1 - 2) (drop 2 c))) (carried c) → Decides (Valid m c) (is_ok check)
    by_check true q e =
        let sums : calculated c ≡ carried c = covered_is ∙ eqb-true _ _ q in
        let valid : Valid m c = shape_valid m c (record { four = four; most = most; address = address; size = size; check = sums }) in
        rw (e, q) (record { yes = λ _. valid; no = λ _. refl })
    by_check false q e = rw (e, q) (decides_no (λ s. eqb-false _ _ q (sym covered_is ∙ s.check)))

    pub by_sum : {check : Check} → check ≡ check_of (remainder (take (length c - 1 - 2) (drop 2 c))) (carried c) → Decides (Valid m c) (is_ok check)
    by_sum = by_check _ refl
