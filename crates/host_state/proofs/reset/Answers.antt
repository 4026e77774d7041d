-- `host_state::reset` meets its contract. Assumes nothing.
use Rattle.std.proofs.Common.{sym}
use Rattle.host_state.proofs.States.{sized}
use Rattle.host_state.proofs.Saves.{reset_done}
use Rattle.host_state.proofs.reset.Goals as goal

pub returns : goal.returns
returns c = reset_done _ (sized _ (sym c.if-not-has_size.ensures)) c.move_to.ensures
