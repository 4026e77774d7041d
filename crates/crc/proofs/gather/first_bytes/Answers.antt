use mathlib.Core.Path.{◌≡◌, refl}
use Prim.Native.Nat.{◌^◌, ◌<◌}
use native.Mathlib.Omega.{arith}
use lib.ListN.{get_or}
use borrow.Author.Rules.{rules}
use Rattle.numbers.specs.BigEndian.{be_of}
use Rattle.crc.proofs.Gathered.{first_more, first_seven}
use Rattle.crc.proofs.gather.first_bytes.Goals as goal

pub loop-i-init : goal.loop-i-init
unfolding be_of
loop-i-init c =
    (search rules, refl)

pub overflow_mul-w : goal.overflow_mul-w
overflow_mul-w c =
    let room : c.loop-i.i < 8 → c.loop-i.w < 2 ^ 56 = λ l. rw c.loop-i.invariant.1 (first_seven c.args.s.now c.loop-i.i (λ k. (c.shared_slice_known-1.given k).fits) l) in
    let small = room (omega arith) in search rules

pub overflow_add-w : goal.overflow_add-w
overflow_add-w c =
    let room : c.loop-i.i < 8 → c.loop-i.w < 2 ^ 56 = λ l. rw c.loop-i.invariant.1 (first_seven c.args.s.now c.loop-i.i (λ k. (c.shared_slice_known-1.given k).fits) l) in
    let small = room (omega arith) in search rules

pub loop-i-preserved : goal.loop-i-preserved
loop-i-preserved c =
    let s = c.args.s.now in
    let i = c.loop-i.i in
    let byte : c.from.result ≡ get_or s i 0 = c.from.ensures in
    (omega arith, omega (arith, c.loop-i.invariant.1, first_more s i (omega arith)))

pub returns : goal.returns
returns c =
    let end : c.loop-i.i ≡ c.args.n = omega arith in
    rw end at c.loop-i.invariant.1
