-- `host_records::give_all` meets its contract. Assumes nothing.
use Rattle.std.proofs.Common.{ℕ, length, refl, ap, ap₂, ◌∙◌}
use Rattle.base.proofs.Parts.{copied_all}
use Rattle.host_answer.specs.Answer.{answer_count, in_bytes}
use Rattle.host_records.proofs.Given.{given_all_lem, given_none}
use Rattle.host_records.proofs.give_all.Goals as goal

pub returns-then-out-size : goal.returns-then-out-size
returns-then-out-size g c =
    let a = c.args in
    ap (λ (r : ℕ). (r, a.out.now)) c.refuse.ensures
    ∙ given_none a.values.now a.out.now (in_bytes (answer_count (length a.values.now))) _ refl c.if-out-size.true

pub returns : goal.returns
returns g c =
    let a = c.args in
    ap₂ (λ r l. (r, l)) c.count.ensures (c.copy_in.ensures ∙ copied_all a.out.now a.values.now c.if-out-size.false)
    ∙ given_all_lem a.values.now a.out.now (in_bytes (answer_count (length a.values.now))) _ refl c.if-out-size.false
