-- `numbers::signed` meets its contract. Below the half the number is itself; above it, −1 less what is missing to the width's last number.
-- Assumes nothing.
use mathlib.Core.Path.{◌≡◌, sym, ap, ◌∙◌}
use Prim.Native.Nat.{ℕ, suc, ◌-◌, ◌*◌, ◌^◌, ◌≤◌, ◌<◌}
use native.Mathlib.Nat.{pow-le-pow_right}
use native.Mathlib.Omega.{arith}
use lib.Dec.{lit<}
use lib.IntN.{ℤ, negsuc, ◌-ℤ◌}
use mir.Syntax.{w32}
use mir.Val.{to_z, of_z}
use mir.ValLaws.{to_z-of_z, to_z_pos}
use Rattle.numbers.proofs.Signs.{from_minus_one_pos}
use Rattle.numbers.proofs.TwosComplement.{halves, signed_of_low, signed_of_high}
use Rattle.numbers.proofs.signed.Goals as goal

pub overflow_cast-result : goal.overflow_cast-result
overflow_cast-result c =
    let whole : 256 ^ c.args.width ≡ c.half-h.result * 2 = rw c.half-h.ensures (halves c.args.width c.requires.0) in
    let room : c.half-h.result ≤ 2 ^ 31 = let most : 256 ^ c.args.width ≤ 256 ^ 4 = pow-le-pow_right (lit< tt) c.requires.1 in
    omega (arith, whole) in
    record { sfits = omega (arith, room) }

pub overflow_sub-result : goal.overflow_sub-result
overflow_sub-result c =
    let whole : 256 ^ c.args.width ≡ c.half-h.result * 2 = rw c.half-h.ensures (halves c.args.width c.requires.0) in
    omega (arith, whole)

pub overflow_sub-result-else-n-h-2 : goal.overflow_sub-result-else-n-h-2
overflow_sub-result-else-n-h-2 c =
    let whole : 256 ^ c.args.width ≡ c.half-h.result * 2 = rw c.half-h.ensures (halves c.args.width c.requires.0) in
    omega (arith, whole)

pub overflow_cast-result-else-n-h : goal.overflow_cast-result-else-n-h
overflow_cast-result-else-n-h c =
    let whole : 256 ^ c.args.width ≡ c.half-h.result * 2 = rw c.half-h.ensures (halves c.args.width c.requires.0) in
    let room : c.half-h.result ≤ 2 ^ 31 = let most : 256 ^ c.args.width ≤ 256 ^ 4 = pow-le-pow_right (lit< tt) c.requires.1 in
    omega (arith, whole) in
    record { sfits = omega (arith, room) }

pub returns-then-n-h : goal.returns-then-n-h
returns-then-n-h c =
    let whole : 256 ^ c.args.width ≡ c.half-h.result * 2 = rw c.half-h.ensures (halves c.args.width c.requires.0) in
    let room : c.half-h.result ≤ 2 ^ 31 = let most : 256 ^ c.args.width ≤ 256 ^ 4 = pow-le-pow_right (lit< tt) c.requires.1 in
    omega (arith, whole) in
    let low = c.half-h.ensures in
    to_z_pos w32 c.args.n (omega (arith, room))
    ∙ sym (signed_of_low c.args.width c.args.n (omega arith))

pub overflow_sub-result-else-n-h-3 : goal.overflow_sub-result-else-n-h-3
overflow_sub-result-else-n-h-3 c =
    let whole : 256 ^ c.args.width ≡ c.half-h.result * 2 = rw c.half-h.ensures (halves c.args.width c.requires.0) in
    let room : c.half-h.result ≤ 2 ^ 31 = let most : 256 ^ c.args.width ≤ 256 ^ 4 = pow-le-pow_right (lit< tt) c.requires.1 in
    omega (arith, whole) in
    let missing : ℕ = c.half-h.result - 1 - (c.args.n - c.half-h.result) in
    let negated : negsuc 0 -ℤ to_z w32 missing ≡ negsuc missing = let small : missing < 2 ^ 31 = omega (arith, room) in
    rw (to_z_pos w32 missing small) (from_minus_one_pos missing) in
    rw negated (record { sfits = omega (arith, room) })

pub returns-else-n-h : goal.returns-else-n-h
returns-else-n-h c =
    let whole : 256 ^ c.args.width ≡ c.half-h.result * 2 = rw c.half-h.ensures (halves c.args.width c.requires.0) in
    let room : c.half-h.result ≤ 2 ^ 31 = let most : 256 ^ c.args.width ≤ 256 ^ 4 = pow-le-pow_right (lit< tt) c.requires.1 in
    omega (arith, whole) in
    let missing : ℕ = c.half-h.result - 1 - (c.args.n - c.half-h.result) in
    let negated : negsuc 0 -ℤ to_z w32 missing ≡ negsuc missing = let small : missing < 2 ^ 31 = omega (arith, room) in
    rw (to_z_pos w32 missing small) (from_minus_one_pos missing) in
    let start = c.args in
    let same : 256 ^ start.width - suc start.n ≡ missing = omega (arith, whole) in
    ap (λ (z : ℤ). to_z w32 (of_z w32 z)) negated
    ∙ to_z-of_z w32 (negsuc missing) (record { sfits = omega (arith, room) })
    ∙ sym (signed_of_high start.width start.n (omega arith) ∙ ap negsuc same)
