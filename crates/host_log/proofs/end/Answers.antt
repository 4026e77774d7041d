-- `host_log::end` meets its contract. Assumes nothing.
use mathlib.Core.Path.{◌≡◌, sym, ◌∙◌}
use mathlib.Core.Bool.{true}
use Rattle.host_log.specs.State.{has_form}
use Rattle.host_log.proofs.States.{form_size, formless, places_lent, end_refused, end_bad, end_good, end_moves}
use Rattle.host_log.proofs.end.Goals as goal

pub returns-then-not-has_form : goal.returns-then-not-has_form
returns-then-not-has_form c = end_refused _ (sym (formless _ (sym c.has_form.ensures ∙ c.if-not-has_form.true)))

pub returns-then-is_bad_end : goal.returns-then-is_bad_end
returns-then-is_bad_end c =
    let s = c.args.state.now in
    let form : has_form s ≡ true = sym c.has_form.ensures ∙ c.if-not-has_form.false in
    end_bad s form c.reader_in-reader.ensures (places_lent s (form_size s form)) c.end-closed.ensures c.is_bad_end.ensures c.if-is_bad_end.true

pub returns : goal.returns
returns c =
    let s = c.args.state.now in
    let form : has_form s ≡ true = sym c.has_form.ensures ∙ c.if-not-has_form.false in
    let lent = places_lent s (form_size s form) in
    let good = end_good s form c.reader_in-reader.ensures lent c.end-closed.ensures c.is_bad_end.ensures c.if-is_bad_end.false in
    end_moves s good _ c.reader_in-reader.ensures lent c.end-closed.ensures c.put_reader.ensures
