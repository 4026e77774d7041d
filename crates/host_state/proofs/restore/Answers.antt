-- `host_state::restore` meets its contract. Assumes nothing.
use Rattle.std.proofs.Common.{sym, ◌∙◌}
use Rattle.std.proofs.lemmas.Result.{err_from_is_err_and}
use Rattle.host_state.proofs.States.{sized, places_count}
use Rattle.host_state.proofs.Saves.{restore_done, restore_kept}
use Rattle.host_state.proofs.restore.Goals as goal

pub returns-in_err-count : goal.returns-in_err-count
returns-in_err-count c =
    let s = c.args.state.now in
    let fits = sized s (sym c.if-not-has_size.ensures) in
    let p = err_from_is_err_and c.from_residual.result c.from_residual.ensures.1 in
    rw (p.1, p.2) (restore_kept s fits _ (c.restore_in.auto.places ∙ places_count s fits) _ c.in_err-count.ensures)

pub returns : goal.returns
returns c =
    let s = c.args.state.now in
    let fits = sized s (sym c.if-not-has_size.ensures) in
    restore_done s fits _ (c.restore_in.auto.places ∙ places_count s fits) _ c.in_ok-count.ensures c.narrow.ensures
    c.position_in.ensures c.move_to.ensures
