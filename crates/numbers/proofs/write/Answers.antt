use Prim.Native.Nat.{ℕ, suc, ◌+◌, ◌-◌, ◌^◌}
use mathlib.Core.Path.{◌≡◌, refl, sym}
use native.Mathlib.Nat.{add-zero, sub-zero, pow-zero, pow-suc, div-one, div-div-eq-div-mul}
use native.Mathlib.Omega.{arith}
use lib.ListN.{length-set}
use Rattle.numbers.specs.BigEndian.{bytes_of}
use Rattle.base.proofs.Parts.{pasted_nil, pasted_cons}
use Rattle.numbers.proofs.write.Goals as goal

pub loop-i-init : goal.loop-i-init
unfolding bytes_of
loop-i-init c =
    let none : c.args.width - c.args.width ≡ 0 = omega arith in
    (omega arith, rw (none, pow-zero) (sym (div-one _)), rw none (sym (pasted_nil _ _)), refl)

pub loop-i-preserved : goal.loop-i-preserved
unfolding bytes_of
loop-i-preserved c =
    let start = c.args in
    let l = c.loop-i in
    let k : ℕ = start.at + (l.i - 1) in
    let m : ℕ = start.width - l.i in
    let at_next : start.at + l.i ≡ suc k = omega arith in
    let one_more : start.width - (l.i - 1) ≡ suc m = omega arith in (
      omega arith,
      rw (one_more, l.invariant.1, pow-suc) (div-div-eq-div-mul start.n (256 ^ m) 256),
      rw (one_more, l.invariant.2, l.invariant.1, at_next) (pasted_cons _ k _ (bytes_of m start.n) (omega arith)),
      simp length-set l.invariant.3,
    )

pub shape_of-out : goal.shape_of-out
shape_of-out c =
    c.loop-i.invariant.3

pub returns : goal.returns
returns c =
    let none : c.loop-i.i ≡ 0 = omega arith in
    rw (c.loop-i.invariant.2, none, add-zero, sub-zero)
