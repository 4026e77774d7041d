-- `host::state::crsf_held` meets its contract. Assumes nothing.
use mathlib.Core.Path.{ap, ◌∙◌}
use mathlib.Core.List.{List}
use Prim.Native.Nat.{ℕ}
use Rattle.host_answer.specs.Answer.{packed, answer_row, in_bytes}
use Rattle.host_answer.proofs.Fits.{in_bytes_lem}
use Rattle.host.proofs.Kept.{held_fits}
use Rattle.host.proofs.state.crsf_held.Goals as goal

pub returns : goal.returns
returns c =
    c.answer_result.ensures.restored
    ∙ ap (λ (row : List ℕ). packed (in_bytes (answer_row row))) c.held.ensures
    ∙ ap packed (in_bytes_lem _ (held_fits _))
