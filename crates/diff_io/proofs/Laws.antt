-- Turn after turn, what the program hands to the comparison and writes is a run of crate comparing, whose uploads are what was read: so `begins` and
-- `whole` there are about the program's text too (RULES 19).
-- Assumes nothing.
use mathlib.Core.Path.{◌≡◌, refl, sym, ap, ap₂, ◌∙◌, subst}
use mathlib.Core.Bool.{Bool, true, false}
use mathlib.Core.List.{List, [], ◌++◌, append-nil}
use Prim.Native.Nat.{ℕ, ◌+◌, ◌-◌, ◌≤◌}
use native.Mathlib.Omega.{arith}
use borrow.Author.Tests.{eqb-true}
use lib.ListN.{take, drop, take-append-drop}
use lib.Seq.{drop-drop, take-take}
use Rattle.base.specs.Parts.{part}
use Rattle.base.proofs.Parts.{drop_take}
use Rattle.base.proofs.Tests.{by_test}
use Rattle.comparing.specs.Call.{is_whole, compared_of}
use Rattle.comparing.specs.Run.{Upload, offered, over, went, Lent, Run, offer_left, offer_right, end_left, end_right, call}
use Rattle.comparing.specs.declared.Compared.{Compared}
use Rattle.diff_io.specs.State.{Fills, Feeds}
use Rattle.diff_io.specs.declared.Fed.{Fed}

-- the unread bytes of an upload are those that stand in its block
pub record Holds (u : Upload) (block : List ℕ) (from to : ℕ) (ends : Bool) : Type 0 where
  pub unread_is : u.unread ≡ part block from (to - from)
  pub ends_is : u.ends ≡ ends

lent : {u : Upload} {block : List ℕ} {from to : ℕ} {ends : Bool} → Holds u block from to ends → Lent u (part block from (to - from)) [] ends
lent {block = block} {from} {to} h =
    record { is = h.unread_is ∙ sym (append-nil (part block from (to - from))); all = λ e. (h.ends_is ∙ e, refl) }

-- what a call leaves unread stands in the block too
rest_of : (block : List ℕ) (from to k : ℕ) → from + k ≤ to → drop k (part block from (to - from)) ++ [] ≡ part block (from + k) (to - (from + k))
rest_of block from to k inside =
    let n : to - from - k ≡ to - (from + k) = omega arith in
    append-nil (drop k (part block from (to - from)))
    ∙ drop_take k (to - from) (drop from block)
    ∙ ap₂ (λ (m : ℕ) (l : List ℕ). take m l) n (drop-drop k from block)

module _ {u v : Upload} {n d : ℕ} {text left right : List ℕ} {l l-to r r-to : ℕ} {l-ends r-ends : Bool} (out : List ℕ) {outAfter : List ℕ} {c : Compared}
    (run : Run u v n d text) (holds : Holds u left l l-to l-ends) (holds' : Holds v right r r-to r-ends)
    (is : (c, outAfter) ≡ compared_of (part left l (l-to - l)) l-ends (part right r (r-to - r)) r-ends n d out) (goes : is_whole c.wants ≡ false) where
  -- a call that does not end the text
  pub call_on : Run (went u (drop c.left (part left l (l-to - l)) ++ [])) (went v (drop c.right (part right r (r-to - r)) ++ [])) c.counts.agree c.counts.differ
      (text ++ take c.written outAfter)
  call_on = call l-ends r-ends out run (lent holds) (lent holds') is goes

  pub left_on : l + c.left ≤ l-to → Holds (went u (drop c.left (part left l (l-to - l)) ++ [])) left (l + c.left) l-to l-ends
  left_on inside = record { unread_is = rest_of left l l-to c.left inside; ends_is = holds.ends_is }

  pub right_on : r + c.right ≤ r-to → Holds (went v (drop c.right (part right r (r-to - r)) ++ [])) right (r + c.right) r-to r-ends
  right_on inside = record { unread_is = rest_of right r r-to c.right inside; ends_is = holds'.ends_is }

-- a block that was fed: the upload as it was, or with what came, or ended
pub record Grown (u u' : Upload) : Type 0 where
  pub on_left : {v : Upload} {n d : ℕ} {text : List ℕ} → Run u v n d text → Run u' v n d text
  pub on_right : {v : Upload} {n d : ℕ} {text : List ℕ} → Run v u n d text → Run v u' n d text

pub record Goes (u : Upload) (after : List ℕ) (r : Fed) : Type 0 where
  pub next : Upload
  pub grown : Grown u next
  pub holds : Holds next after r.from r.to r.ends

module _ {u : Upload} {before after : List ℕ} {from to : ℕ} {ends : Bool} {r : Fed} (holds : Holds u before from to ends) where
  filled : Fills before from to after r → u.unread ++ drop (to - from) (take r.to after) ≡ part after r.from (r.to - r.from)
  filled f =
      let k = to - from in
      let whole : r.to ≡ r.to - r.from = omega (arith, f.first) in
      ap (λ (l : List ℕ). l ++ drop k (take r.to after)) (holds.unread_is ∙ sym f.kept ∙ sym (take-take k r.to after f.behind))
      ∙ take-append-drop k (take r.to after)
      ∙ ap₂ (λ (m : ℕ) (j : ℕ). take m (drop j after)) whole (sym f.first)

  -- nothing came
  none_came : (f : Fills before from to after r) → r.ends ≡ true → u.unread ≡ part after r.from (r.to - r.from)
  none_came f e =
      let k = to - from in
      let same : k ≡ r.to - r.from = omega (arith, f.first, eqb-true r.to k (sym f.ends_is ∙ e)) in
      holds.unread_is ∙ sym f.kept ∙ ap₂ (λ (m : ℕ) (j : ℕ). take m (drop j after)) same (sym f.first)

  fill_on : Fills before from to after r → u.ends ≡ false → Goes u after r
  fill_on f open-still =
      by_test r.ends
      (λ e. record {
        next = over u;
        grown = record { on_left = end_left; on_right = end_right };
        holds = record { unread_is = none_came f e; ends_is = sym e };
      })
      (λ e.
      let came = drop (to - from) (take r.to after) in
      record {
        next = offered u came;
        grown = record { on_left = offer_left came open-still; on_right = offer_right came open-still };
        holds = record { unread_is = filled f; ends_is = open-still ∙ sym e };
      })

  stay_on : r ≡ record { from = from; to = to; ends = ends } → after ≡ before → Goes u after r
  stay_on e same = record {
    next = u;
    grown = record { on_left = λ run. run; on_right = λ run. run };
    holds = subst (λ (x : List ℕ × Fed). Holds u x.0 x.1.from x.1.to x.1.ends) (ap₂ (λ (a : List ℕ) (b : Fed). (a, b)) (sym same) (sym e)) holds;
  }

  -- where it was asked for, the upload had not ended
  pub fed_on : {wanted : Bool} → Feeds wanted before from to ends after r → (wanted ≡ true → u.ends ≡ false) → Goes u after r
  fed_on {wanted} f asked =
      by_test wanted (λ e. fill_on (f.fills e) (asked e)) (λ e. stay_on (f.stays e).0 (f.stays e).1)
