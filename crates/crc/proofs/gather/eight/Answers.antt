-- `crc::gather::eight` meets its contract. Assumes nothing.
use mathlib.Core.Path.{sym, ap₂, ◌∙◌}
use Prim.Native.Nat.{ℕ, ◌+◌, ◌*◌, ◌^◌}
use native.Mathlib.Omega.{arith}
use Rattle.crc.proofs.Gathered.{be_of_eight}
use Rattle.crc.proofs.gather.eight.Goals as goal

pub returns : goal.returns
returns c =
    let a = c.args in
    ap₂ (λ (x y : ℕ). x * 2 ^ 32 + y) c.four.ensures.0 c.four-2.ensures.0 ∙ sym (be_of_eight a.s.now a.i (omega arith))
