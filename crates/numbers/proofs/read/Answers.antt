use Prim.Native.Nat.{◌^◌, ◌<◌}
use mathlib.Core.Path.{ap, ◌∙◌, refl}
use native.Mathlib.Omega.{arith}
use lib.Seq.{take_all}
use Rattle.numbers.specs.BigEndian.{be_of}
use Rattle.numbers.proofs.BigEndian.{be_of_front_lt, be_of_more}
use Rattle.numbers.proofs.read.Goals as goal

pub loop-byte-init : goal.loop-byte-init
unfolding be_of
loop-byte-init c = refl

pub overflow_mul-n : goal.overflow_mul-n
overflow_mul-n c =
    let l = c.loop-byte in
    let room : l.n < 256 ^ 7 = rw l.invariant (be_of_front_lt c.args.bytes.now l.byte-index 7 (λ i. (c.type_inv.bytes i).fits) (omega arith)) in
    record { fits = omega (arith, room) }

pub overflow_add-n : goal.overflow_add-n
overflow_add-n c =
    let l = c.loop-byte in
    let room : l.n < 256 ^ 7 = rw l.invariant (be_of_front_lt c.args.bytes.now l.byte-index 7 (λ i. (c.type_inv.bytes i).fits) (omega arith)) in
    record { fits = omega (arith, room, c.from.ensures, c.type_inv.bytes l.byte-index) }

pub loop-byte-preserved : goal.loop-byte-preserved
loop-byte-preserved c =
    let l = c.loop-byte in
    rw (be_of_more c.args.bytes.now l.byte-index c.loop-byte-test.true, ← l.invariant, c.from.ensures)

pub returns : goal.returns
returns c =
    c.loop-byte.invariant ∙ ap be_of (take_all c.loop-byte.byte-index c.args.bytes.now (omega arith))
