-- `frames::frame::seal` meets its contract: head and check byte are put about the payload. Assumes nothing.
use mathlib.Core.Path.{◌≡◌, ap, ◌∙◌}
use mathlib.Core.List.{List, [], ◌∷◌}
use Prim.Native.Nat.{ℕ, ◌+◌, ◌<◌}
use native.Mathlib.Nat.{mod-eq_of_lt}
use native.Mathlib.Omega.{arith}
use lib.Seq.{slice}
use Rattle.base.specs.Parts.{pasted}
use Rattle.crc.specs.Remainder.{remainder}
use Rattle.frames.proofs.Built.{frame_built}
use Rattle.frames.proofs.frame.seal.Goals as goal

pub returns : goal.returns
returns c =
    let a = c.args in
    let b : List ℕ = a.buffer.now in
    let n : ℕ = a.size in
    let few : n + 2 < 256 = omega arith in
    let first : c.put_head.new.buffer ≡ pasted b 0 (a.dest ∷ (n + 2) ∷ a.kind ∷ []) =
    c.put_head.ensures ∙ ap (λ (k : ℕ). pasted b 0 (a.dest ∷ k ∷ a.kind ∷ [])) (c.narrow.ensures ∙ mod-eq_of_lt few) in
    c.put_check.ensures
    ∙ ap (λ (l : List ℕ). pasted l (n + 3) (remainder (slice 2 (n + 3) l) ∷ [])) first
    ∙ frame_built n a.dest a.kind b (omega arith)
