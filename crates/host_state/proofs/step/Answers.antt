-- `host_state::step` meets its contract. Assumes nothing.
use Rattle.std.proofs.Common.{sym, ◌∙◌, arith}
use native.Mathlib.Nat.{mod-eq_of_lt}
use Rattle.host_state.proofs.States.{sized, places_count}
use Rattle.host_state.proofs.Steps.{bounded, places_step}
use Rattle.host_state.proofs.step.Goals as goal

pub returns : goal.returns
returns c =
    let s = c.args.state.now in
    let fits = sized s (sym c.if-not-has_size.ensures) in
    let few = bounded c.step_in-moved.ensures (omega (arith, places_count s fits)) c.wide-start.ensures.1 c.wide-end.ensures.1 in
    places_step s fits _ (c.step_in-moved.auto.places ∙ places_count s fits) _ c.step_in-moved.result c.wide-start.ensures.0 c.wide-end.ensures.0
    (c.narrow.ensures ∙ mod-eq_of_lt few.0) (c.narrow-2.ensures ∙ mod-eq_of_lt few.1) c.step_in-moved.ensures
