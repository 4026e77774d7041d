-- `comparing::turn::turn_by` meets its contract. Assumes nothing.
use mathlib.Core.Path.{◌≡◌, sym, ap, ap₂, ◌∙◌}
use mathlib.Core.Bool.{Bool, ◌&&◌, not, and-eq-true_iff}
use Rattle.reading.specs.Reading.{limit, stops, first}
use Rattle.comparing.specs.Call.{hungry}
use Rattle.comparing.specs.declared.Wants.TheVariants.{Left, Right}
use Rattle.comparing.proofs.Found.{short_side}
use Rattle.comparing.proofs.Turned.{turn_left, turn_right, turn_closes, turn_settles, turns_as, stayed}
use Rattle.comparing.proofs.turn.turn_by.Goals as goal

pub returns-then-is_hungry : goal.returns-then-is_hungry
returns-then-is_hungry c =
    let left : (let a = c.args in c.is_hungry.result ≡ hungry a.left.ends (first limit a.left.bytes.now)) = c.is_hungry.ensures ∙ ap (λ (t : Bool). t && not c.args.left.ends) c.requires.0.0.asks in
    let a = c.args in
    turns_as (turn_left a.counts.agree a.counts.differ a.left.ends a.right.ends a.left.bytes.now a.right.bytes.now (sym left ∙ c.if-is_hungry.true))
    (stayed a.counts.agree a.counts.differ Left a.out.now a.at c.stay.ensures)

pub returns-then-is_hungry-2 : goal.returns-then-is_hungry-2
returns-then-is_hungry-2 c =
    let left : (let a = c.args in c.is_hungry.result ≡ hungry a.left.ends (first limit a.left.bytes.now)) = c.is_hungry.ensures ∙ ap (λ (t : Bool). t && not c.args.left.ends) c.requires.0.0.asks in
    let right : (let a = c.args in c.is_hungry-2.result ≡ hungry a.right.ends (first limit a.right.bytes.now)) = c.is_hungry-2.ensures ∙ ap (λ (t : Bool). t && not c.args.right.ends) c.requires.0.1.asks in
    let a = c.args in
    turns_as
    (turn_right a.counts.agree a.counts.differ a.left.ends a.right.ends a.left.bytes.now a.right.bytes.now (sym left ∙ c.if-is_hungry.false)
    (sym right ∙ c.if-is_hungry-2.true))
    (stayed a.counts.agree a.counts.differ Right a.out.now a.at c.stay-then-is_hungry-2.ensures)

pub close-requires : goal.close-requires
close-requires c =
    let both : (let a = c.args in
    c.are_done.result ≡ (stops (first limit a.left.bytes.now) && stops (first limit a.right.bytes.now))) = c.are_done.ensures ∙ ap₂ ◌&&◌ c.requires.0.0.asks c.requires.0.1.asks in
    let a = c.args in
    let stop = (and-eq-true_iff (stops (first limit a.left.bytes.now)) (stops (first limit a.right.bytes.now))).0 (sym both ∙ c.if-are_done.true) in
    ((short_side a.left.bytes.now stop.0, short_side a.right.bytes.now stop.1), c.requires.1)

pub returns-then-are_done : goal.returns-then-are_done
returns-then-are_done c =
    let left : (let a = c.args in c.is_hungry.result ≡ hungry a.left.ends (first limit a.left.bytes.now)) = c.is_hungry.ensures ∙ ap (λ (t : Bool). t && not c.args.left.ends) c.requires.0.0.asks in
    let right : (let a = c.args in c.is_hungry-2.result ≡ hungry a.right.ends (first limit a.right.bytes.now)) = c.is_hungry-2.ensures ∙ ap (λ (t : Bool). t && not c.args.right.ends) c.requires.0.1.asks in
    let both : (let a = c.args in
    c.are_done.result ≡ (stops (first limit a.left.bytes.now) && stops (first limit a.right.bytes.now))) = c.are_done.ensures ∙ ap₂ ◌&&◌ c.requires.0.0.asks c.requires.0.1.asks in
    let a = c.args in
    turns_as
    (turn_closes a.counts.agree a.counts.differ a.left.ends a.right.ends a.left.bytes.now a.right.bytes.now (sym left ∙ c.if-is_hungry.false)
    (sym right ∙ c.if-is_hungry-2.false) (sym both ∙ c.if-are_done.true))
    c.close.ensures

pub returns : goal.returns
returns c =
    let left : (let a = c.args in c.is_hungry.result ≡ hungry a.left.ends (first limit a.left.bytes.now)) = c.is_hungry.ensures ∙ ap (λ (t : Bool). t && not c.args.left.ends) c.requires.0.0.asks in
    let right : (let a = c.args in c.is_hungry-2.result ≡ hungry a.right.ends (first limit a.right.bytes.now)) = c.is_hungry-2.ensures ∙ ap (λ (t : Bool). t && not c.args.right.ends) c.requires.0.1.asks in
    let both : (let a = c.args in
    c.are_done.result ≡ (stops (first limit a.left.bytes.now) && stops (first limit a.right.bytes.now))) = c.are_done.ensures ∙ ap₂ ◌&&◌ c.requires.0.0.asks c.requires.0.1.asks in
    let a = c.args in
    turns_as
    (turn_settles a.counts.agree a.counts.differ a.left.ends a.right.ends a.left.bytes.now a.right.bytes.now (sym left ∙ c.if-is_hungry.false)
    (sym right ∙ c.if-is_hungry-2.false) (sym both ∙ c.if-are_done.false))
    c.settle.ensures
