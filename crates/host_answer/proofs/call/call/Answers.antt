-- `host_answer::call::call` meets its contract. Assumes nothing.
use Rattle.std.proofs.Common.{sym, refl, ap, arith}
use Rattle.host_state.proofs.Steps.{can_number_lem, cannot_number}
use Rattle.host_answer.specs.declared.reply.Told.{Told}
use Rattle.host_answer.proofs.Whole.{wrong_size_call, beyond_call, bad_call, more_call, answer_call_lem, sum_fits}
use Rattle.host_answer.proofs.call.call.Goals as goal

pub returns-then-not-has_size : goal.returns-then-not-has_size
returns-then-not-has_size c =
    let a = c.args in wrong_size_call a.state.now a.input.now a.position.now (sym c.if-not-has_size.ensures) c.refuse.ensures

pub returns-then-is_beyond : goal.returns-then-is_beyond
returns-then-is_beyond c =
    let a = c.args in
    let far = cannot_number a.state.now a.input.now (sym c.if-is_beyond.ensures) in
    beyond_call a.state.now a.input.now a.position.now far.0 far.1 c.refuse-then-is_beyond.ensures

pub returns-then-not-is_state : goal.returns-then-not-is_state
returns-then-not-is_state c =
    let a = c.args in
    bad_call a.state.now a.input.now a.position.now (sym c.if-not-has_size.ensures) (sym c.if-not-is_state.ensures) c.refuse-then-not-is_state.ensures

pub returns-then-told-eq0 : goal.returns-then-told-eq0
returns-then-told-eq0 c =
    let good = sym c.if-not-is_state.ensures in
    let can = can_number_lem c.args.state.now c.args.input.now good (sym c.if-is_beyond.ensures) in
    more_call good can c.step.ensures c.answer_call-told.result _ c.answer_call-told.ensures c.if-told-eq0.true refl

pub overflow_add-began : goal.overflow_add-began
overflow_add-began c =
    let good = sym c.if-not-is_state.ensures in
    let can = can_number_lem c.args.state.now c.args.input.now good (sym c.if-is_beyond.ensures) in
    record {
      fits = omega (
        arith,
        sum_fits good can c.step.ensures,
        c.position_of-began.ensures,
        ap (λ (x : Told). x.dropped) c.answer_call-told.ensures,
      );
    }

pub returns : goal.returns
returns c =
    let good = sym c.if-not-is_state.ensures in
    let can = can_number_lem c.args.state.now c.args.input.now good (sym c.if-is_beyond.ensures) in
    answer_call_lem good can c.step.ensures c.answer_call-told.result _ _ c.answer_call-told.ensures c.if-told-eq0.false refl
    c.position_of-began.ensures c.tell.ensures refl c.move_to.ensures
