-- `frames::frame::put_head` meets its contract. Assumes nothing.
use mathlib.Core.List.{[], ◌∷◌}
use native.Mathlib.Omega.{arith}
use lib.ListN.{length-set}
use lib.Seq.{sets-eq}
use Rattle.base.specs.Parts.{pasted}
use Rattle.frames.proofs.frame.put_head.Goals as goal

pub bounds-buffer-1 : goal.bounds-buffer-1
bounds-buffer-1 c =
    simp length-set (omega arith)

pub returns : goal.returns
unfolding pasted
returns c =
    sets-eq (c.args.dest ∷ c.args.count ∷ c.args.kind ∷ []) c.args.buffer.now 0 (omega arith)
