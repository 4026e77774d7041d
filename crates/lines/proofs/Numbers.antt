-- The digits of a number that are written one behind another: those of its tens, and then the last.
-- Assumes nothing.
use mathlib.Core.Path.{◌≡◌, sym, ap, ◌∙◌}
use mathlib.Core.List.{List, [], ◌∷◌, ◌++◌}
use Prim.Native.Nat.{ℕ, ◌+◌, ◌/◌, ◌%◌, ◌≤◌, ◌<◌}
use native.Mathlib.Omega.{arith}
use lib.ListN.{length, set}
use Rattle.base.proofs.Parts.{set_pasted}
use Rattle.lines.specs.Digits.{decimal}
use Rattle.lines.specs.Put.{Puts}
use Rattle.lines.proofs.Digits.{one_digit, decimal_tens, length_tens}
use Rattle.lines.proofs.Puts.{puts_as, puts_then, length_puts}

pub one_long : (n : ℕ) → n < 10 → length (decimal n) ≡ 1
one_long n few = ap length (one_digit n few)

pub puts_units : (d : List ℕ) (at n x : ℕ) → n < 10 → x ≡ 48 + n % 10 → at + length (decimal n) ≤ length d → Puts d at (decimal n) (set d at x) (at + 1)
puts_units d at n x few e room =
    let one : decimal n ≡ (48 + n) ∷ [] = one_digit n few in
    let same : 48 + n ≡ x = omega arith in
    let inside : at < length d = omega (arith, ap length one) in
    puts_as (one ∙ ap (λ (y : ℕ). y ∷ []) same) (record { next = omega arith; written = set_pasted d at x inside })

pub puts_tens : {d e : List ℕ} {at k : ℕ} (n x : ℕ) → 10 ≤ n → x ≡ 48 + n % 10 → at + length (decimal n) ≤ length d
    → Puts d at (decimal (n / 10)) e k → Puts d at (decimal n) (set e k x) (k + 1)
puts_tens {d} {e} {at} {k} n x many q room p =
    let long = length_tens n many in
    let size : length e ≡ length d = length_puts (omega arith) p in
    let inside : k < length e = omega (arith, p.next) in
    puts_as (decimal_tens n many ∙ ap (λ (y : ℕ). decimal (n / 10) ++ y ∷ []) (sym q))
    (puts_then (omega arith) p (record { next = omega arith; written = set_pasted e k x inside }))
