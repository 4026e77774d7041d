use mathlib.Core.Path.{ap, ◌∙◌}
use Prim.Native.Nat.{◌+◌, ◌≤◌}
use native.Mathlib.Omega.{arith}
use lib.ListN.{length}
use lib.Seq.{take_all}
use Rattle.base.specs.Bytes.{Bytes}
use Rattle.crc.specs.Remainder.{shifts}
use Rattle.crc.proofs.Gathered.{check_of_eight}
use Rattle.crc.proofs.gather.by_eights.Goals as goal

pub loop-i-preserved : goal.loop-i-preserved
loop-i-preserved c =
    let s = c.args.s.now in
    let i = c.loop-i.i in
    let bytes : Bytes s = λ k. (c.shared_slice_known-1.given k).fits in
    let inside : i + 8 ≤ length s = omega arith in (
      inside,
      (
        omega arith,
        check_of_eight s i c.times_x64.result c.eight.result bytes inside
            (c.times_x64.ensures ∙ ap (shifts 64) c.loop-i.invariant.1.1)
            c.eight.ensures,
      ),
    )

pub returns : goal.returns
returns c =
    let s = c.args.s.now in
    let all : length s ≤ c.loop-i.i = omega arith in
    rw take_all at c.loop-i.invariant.1.1
