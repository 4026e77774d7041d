-- `host::write::sixteen` meets its contract. Assumes nothing.
use Rattle.std.proofs.Common.{◌≡◌, ℕ, List, ◌++◌, length, drop, sym, ap, ◌∙◌, arith}
use mathlib.Core.List.{append-nil}
use lib.ListN.{replicate}
use Rattle.base.specs.Parts.{copied}
use Rattle.base.proofs.Parts.{copied_all}
use Rattle.host.proofs.write.sixteen.Goals as goal

pub returns : goal.returns
returns c =
    let s = c.args.channels.now in
    let long : length s ≡ 16 = omega arith in
    ap (λ (l : List ℕ). record { 0 = l })
    (c.copy_in.ensures ∙ ap (copied (replicate 16 0) 0 s) (sym long) ∙ copied_all (replicate 16 0) s (omega arith)
    ∙ ap (λ (n : ℕ). s ++ drop n (replicate 16 0)) long ∙ append-nil s)
