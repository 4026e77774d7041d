use mathlib.Core.Path.{ap₂, subst}
use mathlib.Core.List.{List}
use Prim.Native.Nat.{ℕ, ◌+◌, ◌-◌, ◌≤◌}
use native.Mathlib.Omega.{arith}
use borrow.Author.Tests.{leb-true, not-true, not-false}
use lib.ListN.{length, drop}
use Rattle.base.proofs.Tests.{not_as}
use Rattle.stream.proofs.Loop.{unread_is}
use Rattle.reading.specs.Positions.{greatest, is_within}
use Rattle.comparing.specs.Call.{turn_of, longest_turn}
use Rattle.comparing.specs.Parts.{Turns}
use Rattle.comparing.proofs.Filled.{begin, full, takes_left, takes_right, same_size, within_turn, less, again, last}
use mathlib.Core.Path.{ap}
use mathlib.Core.Bool.{not}
use Rattle.comparing.proofs.fill.Goals as goal

pub loop-out-init : goal.loop-out-init
unfolding is_within
loop-out-init c =
    let counted : (let a = c.args in a.counts.agree + a.counts.differ + 1 + length a.left.bytes.now + length a.right.bytes.now ≤ greatest) = leb-true _ _ c.requires in
    let a = c.args in
    begin a.left.bytes.now a.left.ends a.right.bytes.now a.right.ends a.counts.agree a.counts.differ a.out.now counted

pub overflow_sub-out : goal.overflow_sub-out
overflow_sub-out c =
    omega (arith, c.loop-out.invariant.room, c.loop-out.invariant.out_size)

pub slice_bounds-turn-count : goal.slice_bounds-turn-count
slice_bounds-turn-count c =
    c.loop-out.invariant.left_in

pub slice_bounds-turn-start : goal.slice_bounds-turn-start
slice_bounds-turn-start c =
    c.loop-out.invariant.left_in

pub slice_bounds-turn-count-in-loop-out : goal.slice_bounds-turn-count-in-loop-out
slice_bounds-turn-count-in-loop-out c =
    c.loop-out.invariant.right_in

pub slice_bounds-turn-start-in-loop-out : goal.slice_bounds-turn-start-in-loop-out
slice_bounds-turn-start-in-loop-out c =
    c.loop-out.invariant.right_in

pub turn-one-requires : goal.turn-one-requires
turn-one-requires c =
    let f = c.loop-out.invariant in
    (omega (arith, c.loop-out-test.true, f.room, f.out_size), omega (arith, f.counted))

pub overflow_add-l : goal.overflow_add-l
overflow_add-l c =
    let turn : (let a = c.args in let s = c.loop-out in let one = c.turn-one in
    Turns (turn_of s.so_far.agree s.so_far.differ a.left.ends a.right.ends (drop s.l a.left.bytes.now) (drop s.r a.right.bytes.now)) s.out s.at
    one.new.out one.result) = let a = c.args in
    let s = c.loop-out in
    let one = c.turn-one in
    subst
    (λ (x : List ℕ × List ℕ).
    Turns (turn_of s.so_far.agree s.so_far.differ a.left.ends a.right.ends x.0 x.1) s.out s.at one.new.out one.result)
    (ap₂ (λ (x y : List ℕ). (x, y)) (unread_is a.left.bytes.now s.l) (unread_is a.right.bytes.now s.r))
    one.ensures in
    let many : (longest_turn ≤ length c.args.out.now - c.loop-out.at) = omega (arith, c.loop-out-test.true, c.loop-out.invariant.out_size) in
    omega (arith, takes_left c.loop-out.invariant many turn)

pub overflow_add-r : goal.overflow_add-r
overflow_add-r c =
    let turn : (let a = c.args in let s = c.loop-out in let one = c.turn-one in
    Turns (turn_of s.so_far.agree s.so_far.differ a.left.ends a.right.ends (drop s.l a.left.bytes.now) (drop s.r a.right.bytes.now)) s.out s.at
    one.new.out one.result) = let a = c.args in
    let s = c.loop-out in
    let one = c.turn-one in
    subst
    (λ (x : List ℕ × List ℕ).
    Turns (turn_of s.so_far.agree s.so_far.differ a.left.ends a.right.ends x.0 x.1) s.out s.at one.new.out one.result)
    (ap₂ (λ (x y : List ℕ). (x, y)) (unread_is a.left.bytes.now s.l) (unread_is a.right.bytes.now s.r))
    one.ensures in
    let many : (longest_turn ≤ length c.args.out.now - c.loop-out.at) = omega (arith, c.loop-out-test.true, c.loop-out.invariant.out_size) in
    omega (arith, takes_right c.loop-out.invariant many turn)

pub shape_of-out-then-not-goes_on : goal.shape_of-out-then-not-goes_on
shape_of-out-then-not-goes_on c =
    let turn : (let a = c.args in let s = c.loop-out in let one = c.turn-one in
    Turns (turn_of s.so_far.agree s.so_far.differ a.left.ends a.right.ends (drop s.l a.left.bytes.now) (drop s.r a.right.bytes.now)) s.out s.at
    one.new.out one.result) = let a = c.args in
    let s = c.loop-out in
    let one = c.turn-one in
    subst
    (λ (x : List ℕ × List ℕ).
    Turns (turn_of s.so_far.agree s.so_far.differ a.left.ends a.right.ends x.0 x.1) s.out s.at one.new.out one.result)
    (ap₂ (λ (x y : List ℕ). (x, y)) (unread_is a.left.bytes.now s.l) (unread_is a.right.bytes.now s.r))
    one.ensures in
    let many : (longest_turn ≤ length c.args.out.now - c.loop-out.at) = omega (arith, c.loop-out-test.true, c.loop-out.invariant.out_size) in
    same_size c.loop-out.invariant many turn

pub returns-then-not-goes_on : goal.returns-then-not-goes_on
returns-then-not-goes_on c =
    let turn : (let a = c.args in let s = c.loop-out in let one = c.turn-one in
    Turns (turn_of s.so_far.agree s.so_far.differ a.left.ends a.right.ends (drop s.l a.left.bytes.now) (drop s.r a.right.bytes.now)) s.out s.at
    one.new.out one.result) = let a = c.args in
    let s = c.loop-out in
    let one = c.turn-one in
    subst
    (λ (x : List ℕ × List ℕ).
    Turns (turn_of s.so_far.agree s.so_far.differ a.left.ends a.right.ends x.0 x.1) s.out s.at one.new.out one.result)
    (ap₂ (λ (x y : List ℕ). (x, y)) (unread_is a.left.bytes.now s.l) (unread_is a.right.bytes.now s.r))
    one.ensures in
    let many : (longest_turn ≤ length c.args.out.now - c.loop-out.at) = omega (arith, c.loop-out-test.true, c.loop-out.invariant.out_size) in (
      last c.loop-out.invariant many turn (not-true _ (not_as c.goes_on.ensures (ap not c.if-not-goes_on.true))),
      within_turn c.loop-out.invariant many turn,
    )

pub loop-out-smaller : goal.loop-out-smaller
loop-out-smaller c =
    let turn : (let a = c.args in let s = c.loop-out in let one = c.turn-one in
    Turns (turn_of s.so_far.agree s.so_far.differ a.left.ends a.right.ends (drop s.l a.left.bytes.now) (drop s.r a.right.bytes.now)) s.out s.at
    one.new.out one.result) = let a = c.args in
    let s = c.loop-out in
    let one = c.turn-one in
    subst
    (λ (x : List ℕ × List ℕ).
    Turns (turn_of s.so_far.agree s.so_far.differ a.left.ends a.right.ends x.0 x.1) s.out s.at one.new.out one.result)
    (ap₂ (λ (x y : List ℕ). (x, y)) (unread_is a.left.bytes.now s.l) (unread_is a.right.bytes.now s.r))
    one.ensures in
    let many : (longest_turn ≤ length c.args.out.now - c.loop-out.at) = omega (arith, c.loop-out-test.true, c.loop-out.invariant.out_size) in
    less c.loop-out.invariant many turn (not-false _ (not_as c.goes_on.ensures (ap not c.if-not-goes_on.false)))

pub loop-out-preserved : goal.loop-out-preserved
loop-out-preserved c =
    let turn : (let a = c.args in let s = c.loop-out in let one = c.turn-one in
    Turns (turn_of s.so_far.agree s.so_far.differ a.left.ends a.right.ends (drop s.l a.left.bytes.now) (drop s.r a.right.bytes.now)) s.out s.at
    one.new.out one.result) = let a = c.args in
    let s = c.loop-out in
    let one = c.turn-one in
    subst
    (λ (x : List ℕ × List ℕ).
    Turns (turn_of s.so_far.agree s.so_far.differ a.left.ends a.right.ends x.0 x.1) s.out s.at one.new.out one.result)
    (ap₂ (λ (x y : List ℕ). (x, y)) (unread_is a.left.bytes.now s.l) (unread_is a.right.bytes.now s.r))
    one.ensures in
    let many : (longest_turn ≤ length c.args.out.now - c.loop-out.at) = omega (arith, c.loop-out-test.true, c.loop-out.invariant.out_size) in
    again c.loop-out.invariant many turn (not-false _ (not_as c.goes_on.ensures (ap not c.if-not-goes_on.false)))

pub shape_of-out : goal.shape_of-out
shape_of-out c =
    c.loop-out.invariant.out_size

pub returns : goal.returns
returns c =
    let f = c.loop-out.invariant in (
      full f (omega (arith, c.loop-out-test.false, f.out_size)),
      record { left_in = f.left_in; right_in = f.right_in; written_in = f.room },
    )
