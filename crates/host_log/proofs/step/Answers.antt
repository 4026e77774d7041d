use mathlib.Core.Path.{◌≡◌, sym, ◌∙◌}
use mathlib.Core.Bool.{true}
use Rattle.host_log.specs.State.{has_form}
use Rattle.host_log.proofs.States.{form_size, formless, places_lent, head_room, step_refused, step_bad, step_moves}
use Rattle.host_log.proofs.step.Goals as goal

pub returns-then-not-has_form : goal.returns-then-not-has_form
returns-then-not-has_form c = step_refused _ _ (formless _ (sym c.has_form.ensures ∙ c.if-not-has_form.true))

pub returns-then-is_bad_state : goal.returns-then-is_bad_state
returns-then-is_bad_state c =
    let s = c.args.state.now in
    let form : has_form s ≡ true = sym c.has_form.ensures ∙ c.if-not-has_form.false in
    step_bad s form _ c.next-answered.new.places c.reader_in-reader.ensures (places_lent s (form_size s form)) c.next-answered.ensures
    c.is_bad_state.ensures c.if-is_bad_state.true

pub put_reader-requires : goal.put_reader-requires
put_reader-requires c =
    let s = c.args.state.now in
    head_room s (form_size s (sym c.has_form.ensures ∙ c.if-not-has_form.false)) c.next-answered.new.places

pub returns : goal.returns
returns c =
    let s = c.args.state.now in
    let form : has_form s ≡ true = sym c.has_form.ensures ∙ c.if-not-has_form.false in
    step_moves s form _ c.next-answered.new.places c.reader_in-reader.ensures (places_lent s (form_size s form)) c.next-answered.ensures _
    c.is_bad_state.ensures c.if-is_bad_state.false c.put_reader.ensures
