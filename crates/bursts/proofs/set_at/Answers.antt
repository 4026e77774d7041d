-- `bursts::set_at` meets its contract: all sixteen places are filled.
-- Assumes nothing.
use mathlib.Core.Path.{◌≡◌, sym, ap, ◌∙◌}
use mathlib.Core.List.{List, ◌++◌, append-nil}
use Prim.Native.Nat.{ℕ, ◌+◌, ◌-◌}
use native.Mathlib.Omega.{arith}
use lib.ListN.{length, take, drop, length-drop, replicate}
use lib.Seq.{length-take-le}
use Rattle.base.specs.Parts.{copied}
use Rattle.base.proofs.Parts.{copied_all}
use Rattle.channels.specs.Channels.{channels_count}
use Rattle.bursts.proofs.set_at.Goals as goal

pub returns : goal.returns
returns c =
    let a = c.args in
    let s : List ℕ = take (a.at + channels_count - a.at) (drop a.at a.channels.now) in
    let width : a.at + channels_count - a.at ≡ channels_count = omega arith in
    let long : length s ≡ channels_count = length-take-le _ (drop a.at a.channels.now) (omega (arith, length-drop a.at a.channels.now)) ∙ width in
    ap (λ (l : List ℕ). record { 0 = l })
    (c.copy_in.ensures
    ∙ ap (copied (replicate channels_count 0) 0 s) (sym long)
    ∙ copied_all (replicate channels_count 0) s (omega arith)
    ∙ ap (λ (n : ℕ). s ++ drop n (replicate channels_count 0)) long
    ∙ append-nil s
    ∙ ap (λ (n : ℕ). take n (drop a.at a.channels.now)) width)
