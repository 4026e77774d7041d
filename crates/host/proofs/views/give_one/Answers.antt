-- `host::views::give_one` meets its contract. Assumes nothing.
use Rattle.std.proofs.Common.{ℕ, List, [], ◌∷◌, refl, sym, ap, ap₂, ◌∙◌, arith}
use borrow.Author.Tests.{ltb-true, ltb-false}
use Rattle.host_answer.specs.Answer.{answer_count}
use Rattle.host_records.proofs.Given.{given_all_lem, given_none}
use Rattle.host.proofs.Shown.{first_set}
use Rattle.host.proofs.views.give_one.Goals as goal

pub returns-in_default : goal.returns-in_default
returns-in_default c =
    let a = c.args in
    let none = ltb-false 0 _ (sym c.in_default.ensures.item.0) in
    ap (λ (r : ℕ). (r, a.out.now)) c.refuse.ensures ∙ given_none (a.bits ∷ []) a.out.now (answer_count 1) 1 refl (omega (arith, none))

pub returns : goal.returns
returns c =
    let a = c.args in
    let room = ltb-true 0 _ (sym c.in-Some.ensures.item.0) in
    ap₂ (λ (r : ℕ) (l : List ℕ). (r, l)) c.count.ensures (first_set a.bits a.out.now room)
    ∙ given_all_lem (a.bits ∷ []) a.out.now (answer_count 1) 1 refl room
