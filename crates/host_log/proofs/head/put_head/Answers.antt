use Rattle.host_log.proofs.Heads.{head_put}
use Rattle.numbers.specs.BigEndian.{bytes_of}
use Rattle.base.specs.Parts.{placed}
use Prim.Native.Nat.{ℕ}
use mathlib.Core.List.{List}
use mathlib.Core.Path.{ap, ◌∙◌}
use Rattle.host_log.proofs.head.put_head.Goals as goal

pub returns : goal.returns
returns c =
    c.put_u32-2.ensures
    ∙ ap (λ (x : List ℕ). placed x 7 (bytes_of 4 c.args.head.seconds)) c.put_u32.ensures
    ∙ head_put c.args.state.now c.args.head c.requires
