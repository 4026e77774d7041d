-- However a log is cut into parts, their texts, joined, and the last line are its whole text; and a refusal ends it.
-- Assumes nothing.
use mathlib.Core.Path.{◌≡◌, refl, sym, ap, ◌∙◌}
use mathlib.Core.List.{List, [], ◌∷◌, ◌++◌, append_assoc, append-nil}
use Prim.Native.Nat.{ℕ, ◌+◌, ◌-◌, ◌≤◌}
use native.Mathlib.Omega.{arith}
use borrow.Author.Tests.{leb-true, ne_eqb}
use lib.ListN.{length, get_or}
use Rattle.base.specs.Parts.{fits_in}
use Rattle.base.proofs.Tests.{by_test}
use Rattle.refusals.specs.Row.{number_of}
use Rattle.refusals.specs.declared.Refusal.{Refusal}
use Rattle.refusals.specs.declared.Refusal.TheVariants.{InvalidLog, InvalidFrame}
use Rattle.log_reader.proofs.Readers.{nine, ten}
use Rattle.reading.specs.Answer.{Frame}
use Rattle.lines.specs.Put.{put_within}
use Rattle.lines.specs.Lines.{frame_line, frame_line_at, line}
use Rattle.kit_log.specs.Entry.{Entry}
use Rattle.kit_log.specs.Reading.{State, refused, start, Reading, read_from, reading}
use Rattle.kit_log.proofs.Reading.{goes_on, stays_refused}
use Rattle.log_lines.specs.Part.{front_of}
use Rattle.log_lines.specs.Text.{entry_line, entry_lines, refusal_line, last_line, whole_text, text_from}

pub lines_append : (xs ys : List Entry) → entry_lines (xs ++ ys) ≡ entry_lines xs ++ entry_lines ys
unfolding entry_lines
lines_append [] ys = refl
lines_append (e ∷ xs) ys = ap (λ (l : List ℕ). entry_line e ++ l) (lines_append xs ys) ∙ sym (append_assoc (entry_line e) (entry_lines xs) (entry_lines ys))

pub one_line : (e : Entry) → entry_lines (e ∷ []) ≡ entry_line e
unfolding entry_lines
one_line e = append-nil (entry_line e)

-- a refusal that is not of logs has no line
pub no_line : (r : Refusal) → (r ≡ InvalidLog → ⊥) → (r ≡ InvalidFrame → ⊥) → refusal_line r ≡ []
unfolding refusal_line
no_line r h k = simp (ne_eqb (number_of r) 9 (λ e. h (nine r e)), ne_eqb (number_of r) 10 (λ e. k (ten r e)))

-- ---- Parts

abbrev pub joined : List (List ℕ) → List ℕ
joined [] = []
joined (part ∷ parts) = part ++ joined parts

-- from any state
abbrev text_at : State → List ℕ → List ℕ
text_at st s = let r = read_from st s in entry_lines r.entries ++ last_line r.state

text_on : (st : State) (s t : List ℕ) → text_at st (s ++ t) ≡ entry_lines (read_from st s).entries ++ text_at (read_from st s).state t
text_on st s t =
    let r = read_from st s in
    let u = read_from r.state t in
    ap (λ (x : Reading). entry_lines x.entries ++ last_line x.state) (goes_on st s t)
    ∙ ap (λ (l : List ℕ). l ++ last_line u.state) (lines_append r.entries u.entries)
    ∙ append_assoc (entry_lines r.entries) (entry_lines u.entries) (last_line u.state)

parts_from : (st : State) (parts : List (List ℕ)) → text_from st parts ≡ text_at st (joined parts)
unfolding text_from read_from entry_lines
parts_from st [] = refl
parts_from st (part ∷ parts) =
    ap (λ (l : List ℕ). entry_lines (read_from st part).entries ++ l) (parts_from (read_from st part).state parts) ∙ sym (text_on st part (joined parts))

-- the parts of a log, one after another
pub parts_are_whole : (parts : List (List ℕ)) → text_from start parts ≡ whole_text (joined parts)
parts_are_whole parts = parts_from start parts

-- what stands behind a refusal writes nothing: a program may stop there
pub refused_is_last : (s t : List ℕ) (r : Refusal) → (reading s).state ≡ refused r → whole_text (s ++ t) ≡ whole_text s
unfolding entry_lines
refused_is_last s t r e =
    let a = reading s in
    text_on start s t
    ∙ ap (λ (st : State). entry_lines a.entries ++ text_at st t) e
    ∙ ap (λ (x : Reading). entry_lines a.entries ++ (entry_lines x.entries ++ last_line x.state)) (stays_refused r t)
    ∙ ap (λ (st : State). entry_lines a.entries ++ last_line st) (sym e)

-- ---- The line of a frame that says its own length is the listing's
pub listing_line : (c : List ℕ) → get_or c 1 0 + 2 ≡ length c → frame_line_at c 0 ≡ line (Frame c)
unfolding line
listing_line c e = let payload : get_or c 1 0 - 2 ≡ length c - 4 = omega arith in ap (frame_line (get_or c 0 0) (get_or c 2 0)) payload

-- ---- What is written at the front of a buffer lies within it
pub front_fits : (text out : List ℕ) {r : ℕ} {outAfter : List ℕ} → (r, outAfter) ≡ front_of text out → r ≤ length out
unfolding put_within
front_fits text out e =
    by_test (fits_in (length out) 0 (length text))
    (λ t. let q = ap (λ (x : ℕ × List ℕ). x.0) (simp t at e) in omega (arith, leb-true (0 + length text) (length out) t))
    (λ t. let q = ap (λ (x : ℕ × List ℕ). x.0) (simp t at e) in omega arith)
