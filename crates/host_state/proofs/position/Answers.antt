-- `host_state::position` meets its contract. Assumes nothing.
use Rattle.std.proofs.Common.{sym}
use borrow.Author.Tests.{ltb-true}
use Rattle.host_state.proofs.Saves.{position_given}
use Rattle.host_state.proofs.position.Goals as goal

pub returns : goal.returns
returns c =
    let a = c.args in
    position_given a.state.now a.out.now (sym c.if-not-is_state.ensures) (ltb-true 0 _ (sym c.in-Some.ensures.item.0)) c.position_of.ensures
