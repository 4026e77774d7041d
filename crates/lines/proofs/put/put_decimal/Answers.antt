-- `lines::put::put_decimal` meets its contract. Assumes nothing.
use mathlib.Core.Path.{◌≡◌, sym, ap, ap₂, ◌∙◌}
use mathlib.Core.List.{List, [], ◌∷◌}
use Prim.Native.Nat.{ℕ, ◌+◌, ◌≤◌, ◌/◌, ◌%◌}
use native.Mathlib.Omega.{arith}
use lib.ListN.{length, length-set}
use Rattle.lines.specs.Digits.{decimal}
use Rattle.lines.proofs.Puts.{two_bytes, three_bytes, four_bytes, puts_as}
use Rattle.lines.proofs.Digits.{one_digit, two_digits, three_digits}
use Rattle.lines.proofs.put.put_decimal.Goals as goal

pub bounds-out-at-then-n-lt10 : goal.bounds-out-at-then-n-lt10
bounds-out-at-then-n-lt10 c =
    let one : (let n = c.args.n in decimal n ≡ (48 + n) ∷ []) = one_digit c.args.n c.if-n-lt10.true in
    let room_one : (let a = c.args in a.at + 2 ≤ length a.out.now) = omega (arith, c.requires, ap length one) in
    simp length-set (omega (arith, room_one))

pub returns-then-n-lt10 : goal.returns-then-n-lt10
returns-then-n-lt10 c =
    let one : (let n = c.args.n in decimal n ≡ (48 + n) ∷ []) = one_digit c.args.n c.if-n-lt10.true in
    let room_one : (let a = c.args in a.at + 2 ≤ length a.out.now) = omega (arith, c.requires, ap length one) in
    let a = c.args in (
      puts_as (ap (λ (l : List ℕ). 32 ∷ l) (one ∙ ap (λ (x : ℕ). x ∷ []) (sym c.digit.ensures)))
          (record { next = omega arith; written = two_bytes a.out.now a.at 32 c.digit.result room_one }),
      omega arith,
    )

pub bounds-out-at-then-n-lt100 : goal.bounds-out-at-then-n-lt100
bounds-out-at-then-n-lt100 c =
    let two : (let n = c.args.n in decimal n ≡ (48 + n / 10) ∷ (48 + n % 10) ∷ []) = two_digits c.args.n c.if-n-lt10.false c.if-n-lt100.true in
    let room_two : (let a = c.args in a.at + 3 ≤ length a.out.now) = omega (arith, c.requires, ap length two) in
    simp length-set (omega (arith, room_two))

pub bounds-out-at-then-n-lt100-2 : goal.bounds-out-at-then-n-lt100-2
bounds-out-at-then-n-lt100-2 c =
    let two : (let n = c.args.n in decimal n ≡ (48 + n / 10) ∷ (48 + n % 10) ∷ []) = two_digits c.args.n c.if-n-lt10.false c.if-n-lt100.true in
    let room_two : (let a = c.args in a.at + 3 ≤ length a.out.now) = omega (arith, c.requires, ap length two) in
    simp length-set (omega (arith, room_two))

pub returns-then-n-lt100 : goal.returns-then-n-lt100
returns-then-n-lt100 c =
    let two : (let n = c.args.n in decimal n ≡ (48 + n / 10) ∷ (48 + n % 10) ∷ []) = two_digits c.args.n c.if-n-lt10.false c.if-n-lt100.true in
    let room_two : (let a = c.args in a.at + 3 ≤ length a.out.now) = omega (arith, c.requires, ap length two) in
    let a = c.args in (
      puts_as (ap (λ (l : List ℕ). 32 ∷ l) (two ∙ ap₂ (λ (x y : ℕ). x ∷ y ∷ []) (sym c.digit-then-n-lt100.ensures) (sym c.digit-then-n-lt100-2.ensures)))
          (record { next = omega arith; written = three_bytes a.out.now a.at 32 c.digit-then-n-lt100.result c.digit-then-n-lt100-2.result room_two }),
      omega arith,
    )

pub bounds-out-at-2 : goal.bounds-out-at-2
bounds-out-at-2 c =
    let three : (let n = c.args.n in decimal n ≡ (48 + n / 10 / 10) ∷ (48 + n / 10 % 10) ∷ (48 + n % 10) ∷ []) = three_digits c.args.n c.if-n-lt100.false (omega (arith, c.ranges.n)) in
    let room_three : (let a = c.args in a.at + 4 ≤ length a.out.now) = omega (arith, c.requires, ap length three) in
    simp length-set (omega (arith, room_three))

pub bounds-out-at-3 : goal.bounds-out-at-3
bounds-out-at-3 c =
    let three : (let n = c.args.n in decimal n ≡ (48 + n / 10 / 10) ∷ (48 + n / 10 % 10) ∷ (48 + n % 10) ∷ []) = three_digits c.args.n c.if-n-lt100.false (omega (arith, c.ranges.n)) in
    let room_three : (let a = c.args in a.at + 4 ≤ length a.out.now) = omega (arith, c.requires, ap length three) in
    simp length-set (omega (arith, room_three))

pub bounds-out-at-4 : goal.bounds-out-at-4
bounds-out-at-4 c =
    let three : (let n = c.args.n in decimal n ≡ (48 + n / 10 / 10) ∷ (48 + n / 10 % 10) ∷ (48 + n % 10) ∷ []) = three_digits c.args.n c.if-n-lt100.false (omega (arith, c.ranges.n)) in
    let room_three : (let a = c.args in a.at + 4 ≤ length a.out.now) = omega (arith, c.requires, ap length three) in
    simp length-set (omega (arith, room_three))

pub returns : goal.returns
returns c =
    let three : (let n = c.args.n in decimal n ≡ (48 + n / 10 / 10) ∷ (48 + n / 10 % 10) ∷ (48 + n % 10) ∷ []) = three_digits c.args.n c.if-n-lt100.false (omega (arith, c.ranges.n)) in
    let room_three : (let a = c.args in a.at + 4 ≤ length a.out.now) = omega (arith, c.requires, ap length three) in
    let a = c.args in
    let d = c.digit-2.result in (
      puts_as
          (ap (λ (l : List ℕ). 32 ∷ l)
          (three
          ∙ ap (λ (x : ℕ). x ∷ (48 + a.n / 10 % 10) ∷ (48 + a.n % 10) ∷ []) (sym c.digit-2.ensures)
          ∙ ap₂ (λ (x y : ℕ). d ∷ x ∷ y ∷ []) (sym c.digit-3.ensures) (sym c.digit-4.ensures)))
          (record { next = omega arith; written = four_bytes a.out.now a.at 32 d c.digit-3.result c.digit-4.result room_three }),
      omega arith,
    )
