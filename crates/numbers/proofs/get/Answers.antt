-- `numbers::get` meets its contract: four bytes at most make a number of 32 bits. Assumes nothing.
use mathlib.Core.Path.{◌≡◌, ap, ◌∙◌}
use Prim.Native.Nat.{ℕ, ◌≤◌}
use native.Mathlib.Nat.{lt_of_lt_of_le, pow-le-pow_right}
use native.Mathlib.Omega.{arith}
use lib.Dec.{lit<}
use Rattle.base.specs.Bytes.{Bytes}
use Rattle.base.specs.Parts.{part}
use Rattle.numbers.specs.Width.{width_of}
use Rattle.numbers.specs.BigEndian.{be_of}
use Rattle.numbers.proofs.BigEndian.{be_of_part_lt}
use Rattle.numbers.proofs.get.Goals as goal

pub read_some-requires : goal.read_some-requires
read_some-requires c =
    let w = c.width_of.ensures in omega arith

pub overflow_cast-result : goal.overflow_cast-result
overflow_cast-result c =
    let number : ℕ = let a = c.args in be_of (part a.s.now a.at (width_of a.width)) in
    let is_number : c.read_some.result ≡ number = let a = c.args in
    c.read_some.ensures ∙ ap (λ (w : ℕ). be_of (part a.s.now a.at w)) c.width_of.ensures in
    let a = c.args in
    let bytes : Bytes a.s.now = λ i. (c.shared_slice_known-1.given i).fits in
    let most : width_of a.width ≤ 4 = omega arith in
    rw is_number
    (record { fits = lt_of_lt_of_le (be_of_part_lt a.s.now a.at (width_of a.width) bytes) (pow-le-pow_right (lit< tt) most) })

pub returns : goal.returns
returns c =
    let number : ℕ = let a = c.args in be_of (part a.s.now a.at (width_of a.width)) in
    let is_number : c.read_some.result ≡ number = let a = c.args in
    c.read_some.ensures ∙ ap (λ (w : ℕ). be_of (part a.s.now a.at w)) c.width_of.ensures in
    is_number
