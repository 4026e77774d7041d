-- `host_state::is_beyond` meets its contract. Assumes nothing.
use Rattle.std.proofs.Common.{arith}
use Rattle.host_state.proofs.Steps.{near}
use Rattle.host_state.proofs.is_beyond.Goals as goal

pub returns-then-position-le-NEAR : goal.returns-then-position-le-NEAR
returns-then-position-le-NEAR c =
    let a = c.args in near a.state.now a.input.now (omega (arith, c.position_of-position.ensures)) (omega arith)
