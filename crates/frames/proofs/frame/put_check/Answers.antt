-- `frames::frame::put_check` meets its contract. Assumes nothing.
use mathlib.Core.Path.{sym, ap, ◌∙◌}
use mathlib.Core.List.{List, [], ◌∷◌}
use Prim.Native.Nat.{ℕ}
use native.Mathlib.Omega.{arith}
use lib.Seq.{sets-eq}
use Rattle.base.specs.Parts.{pasted}
use Rattle.base.proofs.Parts.{drop_take}
use Rattle.crc.specs.Remainder.{remainder}
use Rattle.frames.proofs.frame.put_check.Goals as goal

pub returns : goal.returns
unfolding pasted
returns c =
    let a = c.args in
    let l : List ℕ = a.buffer.now in
    sets-eq (c.checksum_fresh-check.result ∷ []) l a.last (omega arith)
    ∙ ap (λ (v : ℕ). pasted l a.last (v ∷ [])) (c.checksum_fresh-check.ensures ∙ ap remainder (sym (drop_take 2 a.last l)))
