-- `comparing::next::is_alike` meets its contract. Assumes nothing.
use mathlib.Core.Path.{◌≡◌, sym, ap, ap₂, ◌∙◌}
use mathlib.Core.Bool.{true}
use lib.ListN.{get_or}
use lib.Seq.{length-take-le}
use borrow.Author.Tests.{not-true, not-false}
use Rattle.base.proofs.Tests.{not_as}
use Rattle.refusals.specs.Row.{struct_of}
use Rattle.refusals.specs.declared.Row.{Row}
use Rattle.comparing.specs.Next.{head_of, same_row}
use Rattle.comparing.proofs.Alike.{other_heads, same_refusals, same_frames}
use mathlib.Core.Bool.{not}
use Rattle.comparing.proofs.next.is_alike.Goals as goal

pub returns-then-not-is_same_row : goal.returns-then-not-is_same_row
returns-then-not-is_same_row c =
    let same_is : (let a = c.args in
    c.is_same_row.result ≡ same_row (struct_of (head_of a.a.reply)) (struct_of (head_of a.b.reply))) = c.is_same_row.ensures ∙ ap₂ same_row c.head_of-x.ensures c.head_of-y.ensures in
    other_heads c.requires.0 c.requires.1 (not-true _ (not_as same_is (ap not c.if-not-is_same_row.true)))

pub slice_bounds-is_same-end : goal.slice_bounds-is_same-end
slice_bounds-is_same-end c =
    sym (length-take-le c.args.a.size c.args.left.now c.requires.0.inside)

pub slice_bounds-is_same-end-2 : goal.slice_bounds-is_same-end-2
slice_bounds-is_same-end-2 c =
    sym (length-take-le c.args.b.size c.args.right.now c.requires.1.inside)

pub returns : goal.returns
returns c =
    let same_is : (let a = c.args in
    c.is_same_row.result ≡ same_row (struct_of (head_of a.a.reply)) (struct_of (head_of a.b.reply))) = c.is_same_row.ensures ∙ ap₂ same_row c.head_of-x.ensures c.head_of-y.ensures in
    let same : (let a = c.args in
    same_row (struct_of (head_of a.a.reply)) (struct_of (head_of a.b.reply)) ≡ true) = not-false _ (not_as same_is (ap not c.if-not-is_same_row.false)) in
    let number_is : (c.head_of-x.result.number ≡ get_or (head_of c.args.a.reply) 0 0) = ap (λ (x : Row). x.number) c.head_of-x.ensures in
    c.is_same.ensures ∙ same_frames c.requires.0 c.requires.1 same (sym number_is ∙ c.if-x-ne0.false)

pub returns-then-x-ne0 : goal.returns-then-x-ne0
returns-then-x-ne0 c =
    let same_is : (let a = c.args in
    c.is_same_row.result ≡ same_row (struct_of (head_of a.a.reply)) (struct_of (head_of a.b.reply))) = c.is_same_row.ensures ∙ ap₂ same_row c.head_of-x.ensures c.head_of-y.ensures in
    let same : (let a = c.args in
    same_row (struct_of (head_of a.a.reply)) (struct_of (head_of a.b.reply)) ≡ true) = not-false _ (not_as same_is (ap not c.if-not-is_same_row.false)) in
    let number_is : (c.head_of-x.result.number ≡ get_or (head_of c.args.a.reply) 0 0) = ap (λ (x : Row). x.number) c.head_of-x.ensures in
    same_refusals c.requires.0 c.requires.1 same (λ e. c.if-x-ne0.true (number_is ∙ e))
