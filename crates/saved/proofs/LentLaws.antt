-- A parser that is restored from any accepted form begins a history, at the form's position (RULES 18.4). A lent parser that is saved, and a lent parser
-- that is restored from what the save wrote: they hold the same bytes and stand at the same position (RULES 9.6), and demand 3 goes on (RULES 7.3, 18.4).
-- Assumes nothing.
use Rattle.std.specs.Prelude.{Ok}
use mathlib.Core.Path.{◌≡◌, refl, sym, ap, ap₂, ◌∙◌, subst}
use mathlib.Core.Bool.{true, ◌&&◌}
use mathlib.Core.List.{List, [], ◌++◌}
use Prim.Native.Nat.{ℕ, ◌+◌, ◌≤◌, ◌<◌}
use native.Mathlib.Omega.{arith}
use borrow.Author.Tests.{le-leb}
use lib.ListN.{length, take}
use Rattle.base.specs.Parts.{pasted}
use Rattle.reading.specs.Answer.{Answer}
use Rattle.reading.specs.Reading.{reading, ◌⊕◌, limit}
use Rattle.reading.specs.History.{History, begin}
use Rattle.reading.specs.Positions.{greatest}
use Rattle.reading.proofs.History.{resumed}
use Rattle.parser.proofs.Histories.{Stands}
use Rattle.parser.specs.declared.CrsfParser.{CrsfParser}
use Rattle.parser.specs.Parser.{held_by, is_state}
use Rattle.writing.specs.Writing.{written_row}
use Rattle.saved.specs.Save.{Restored}
use Rattle.saved.specs.Form.{saved_form, position_in, is_form, held_of}
use Rattle.saved.specs.Save.{held_row, restored_row}
use Rattle.saved.specs.Parser.{resume_of}
use Rattle.saved.specs.Lent.{Saves, Resumes}
use Rattle.saved.proofs.Marked.{position_again, form_accepted, held_again}
use Rattle.saved.proofs.Laws.{restored_holds, written}

abbrev Left : Type 0
Left = List ℕ × CrsfParser

-- a parser that holds these bytes and no others, from place 0 on, and stands there
abbrev at_front : CrsfParser → ℕ → List ℕ → CrsfParser
at_front q position held = record { buffer = pasted q.buffer 0 held; start = 0; end = length held; position = position }

resumes_at : (q : CrsfParser) (position : ℕ) (held : List ℕ) → length held < limit → position + length held ≤ greatest
    → resume_of q (saved_form position held) ≡ (held_row (length held), at_front q position held)
unfolding resume_of
resumes_at q position held few fits =
    simp (form_accepted position held limit few fits, held_again position held limit few fits, position_again position held (omega arith))

-- a parser that is restored from any form that is accepted begins a history there: its held bytes are the stream so far, numbered from the form's position
pub restored_begins : (q : CrsfParser) (form : List ℕ) → is_form limit form ≡ true
    → Stands (position_in form) (held_of limit form) (resume_of q form).1 [] []
unfolding resume_of
restored_begins q form good =
    let held = held_of limit form in
    let left : (resume_of q form).1 ≡ at_front q (position_in form) held = simp good in
    rw left (record {
      history = subst (λ (l : List ℕ). History limit held l [] []) (sym (restored_holds q.buffer held)) (begin held);
      position = refl;
    })

-- what a restored parser is to the one that was saved
pub record Carried (p q : CrsfParser) (r : Restored) : Type 0 where
  pub row : restored_row r ≡ held_row (length (held_by p))
  pub same : held_by q ≡ held_by p
  pub stands : q.position ≡ p.position
  pub state : is_state q ≡ true

-- p is saved; then q is restored from what the save wrote, and is q' afterwards
module _ (p q : CrsfParser) (full : length p.buffer ≡ limit) (out : List ℕ) (n : ℕ) {after : List ℕ} (saves : Saves p out (Ok n) after)
    {q' : CrsfParser} (r : Restored) (resumes : Resumes q (take n after) q' r) where
  pub carried : Carried p q' r
  unfolding written_row
  carried =
      let w = written p.buffer p.start p.end p.position out saves in
      let held = held_by p in
      let few : length held < limit = omega (arith, w.few) in
      let e = resumes ∙ ap (resume_of q) w.form ∙ resumes_at q p.position held few w.fits in
      let at : q' ≡ at_front q p.position held = ap (λ (x : Left). x.1) e in
      record {
        row = ap (λ (x : Left). x.0) e;
        same = ap held_by at ∙ restored_holds q.buffer held;
        stands = ap (λ (x : CrsfParser). x.position) at;
        state = ap is_state at ∙ ap₂ ◌&&◌ (le-leb 0 (length held) (omega arith)) (le-leb (length held) limit (omega arith));
      }

  -- the answers before the save and those after the restore, which is offered what was unread and then more, are the stream's
  pub goes_on_carried : {m : ℕ} {stream unread held₂ unread₂ : List ℕ} {given given₂ : List Answer} (more : List ℕ)
      → History m stream (held_by p) unread given
      → History m (held_by q' ++ unread ++ more) held₂ unread₂ given₂
      → reading m (stream ++ more) ≡ (given ++ given₂) ⊕ reading m (held₂ ++ unread₂)
  goes_on_carried {m} {unread = unread} {held₂} {unread₂} {given₂ = given₂} more before later =
      resumed more before (subst (λ (l : List ℕ). History m (l ++ unread ++ more) held₂ unread₂ given₂) carried.same later)

  -- and the restored parser stands where the saved one stood, in the same history: what it answers from there on is numbered as if there had been no save
  pub stands_carried : {s : ℕ} {stream unread : List ℕ} {given : List Answer} → Stands s stream p unread given → Stands s stream q' unread given
  stands_carried {stream = stream} {unread} {given} h =
      record {
        history = subst (λ (l : List ℕ). History limit stream l unread given) (sym carried.same) h.history;
        position = carried.stands ∙ h.position;
      }
