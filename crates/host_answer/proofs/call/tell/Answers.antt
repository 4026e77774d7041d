-- `host_answer::call::tell` meets its contract. Assumes nothing.
use Rattle.std.proofs.Common.{sym, ◌∙◌, [], ◌∷◌, arith}
use borrow.Author.Tests.{ltb-true, ltb-false}
use Rattle.base.proofs.Parts.{set_pasted, placed_fits, placed_short}
use Rattle.host_answer.proofs.call.tell.Goals as goal

pub returns-in-Some : goal.returns-in-Some
returns-in-Some c =
    let a = c.args in
    let some = ltb-true 0 _ (sym c.in-Some.ensures.item.0) in
    set_pasted a.out.now 0 a.began some ∙ sym (placed_fits a.out.now 0 (a.began ∷ []) (omega (arith, some)))

pub returns-in_default : goal.returns-in_default
returns-in_default c =
    let a = c.args in
    sym (placed_short a.out.now (a.began ∷ []) (omega (arith, ltb-false 0 _ (sym c.in_default.ensures.item.0))))
