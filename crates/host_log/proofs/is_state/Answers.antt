use mathlib.Core.Path.{◌≡◌, sym, ◌∙◌}
use mathlib.Core.Bool.{true}
use Rattle.host_log.specs.State.{has_form}
use Rattle.host_log.proofs.States.{form_size, formless, formed, places_lent}
use Rattle.host_log.proofs.is_state.Goals as goal

pub returns-then-has_form : goal.returns-then-has_form
returns-then-has_form c =
    let s = c.args.state.now in
    let form : has_form s ≡ true = sym c.has_form.ensures ∙ c.if-has_form.true in
    formed s (form_size s form) form c.reader_in.ensures (places_lent s (form_size s form)) c.is_state.ensures

pub returns-else-has_form : goal.returns-else-has_form
returns-else-has_form c = c.if-has_form.false ∙ formless _ (sym c.has_form.ensures ∙ c.if-has_form.false)
