-- `numbers::half` meets its contract: each width's half is computed. Assumes nothing.
use mathlib.Core.Path.{◌≡◌, refl}
use Prim.Native.Nat.{ℕ, zero, suc, ◌*◌, ◌-◌, ◌/◌, ◌%◌, ◌^◌, ◌≤◌, ◌<◌}
use native.Mathlib.Omega.{arith}
use Rattle.numbers.proofs.half.Goals as goal

upper : (w : ℕ) → 0 < w → w ≤ 4 → 1 * 2 ^ (8 * w - 1) % 4294967296 ≡ 256 ^ w / 2
upper zero low high = absurd (omega arith)
upper (suc zero) low high = refl
upper (suc (suc zero)) low high = refl
upper (suc (suc (suc zero))) low high = refl
upper (suc (suc (suc (suc zero)))) low high = refl
upper (suc (suc (suc (suc (suc w))))) low high = absurd (omega arith)

pub returns : goal.returns
returns c = upper c.args.width (omega arith) (omega arith)
