-- The line that the code writes of a call is the line of the reading's answer.
-- Assumes nothing.
use mathlib.Core.Path.{◌≡◌, refl, sym, ap, ◌∙◌, subst}
use mathlib.Core.Bool.{Bool, true, false}
use mathlib.Core.List.{List, [], ◌++◌, append-nil}
use Prim.Native.Nat.{ℕ, ◌+◌, ◌-◌, ◌≤◌}
use native.Mathlib.Nat.{add-zero}
use native.Mathlib.Omega.{arith}
use lib.Dec.{ltb}
use lib.ListN.{length, get_or, take, drop, length-take}
use lib.Seq.{get_or-take, get_or-drop, length-take-le}
use Rattle.std.specs.Prelude.{None}
use Rattle.reading.specs.Answer as reading
use Rattle.reading.specs.Answer.{row}
use Rattle.reading.specs.Reading.{First, stop, says, frame_length}
use Rattle.reading.specs.Call.{call}
use Rattle.reading.specs.History.{answered}
use Rattle.reading.proofs.Cases.{Case, empty, unlisted, alone, bad_length, waits, bad_check, whole, cases}
use Rattle.reading.proofs.Tests.{good_bounds}
use Rattle.reading.proofs.Call.{answers_first}
use Rattle.stream.specs.declared.step.Place.TheVariants.{InPiece, InHeld}
use Rattle.stream.specs.declared.step.Reply.{Reply}
use Rattle.stream.specs.declared.step.Reply.TheVariants.{More, Frame, Refused}
use Rattle.stream.specs.declared.step.Moved.{Moved}
use Rattle.stream.specs.Places.{held_in}
use Rattle.stream.specs.Step.{Said, more, frame, refused, said_of, meaning_of, asks_for_more, is_span, Moves, Steps}
use Rattle.stream.proofs.Replies.{said_is}
use Rattle.stream.proofs.Loop as loop
use Rattle.lines.specs.Lines.{frame_line, frame_line_at, line, refusal_line, lines_of}
use Rattle.lines.specs.Put.{line_by}
use Rattle.lines.proofs.Rows.{line_of, line_of_row}
use Rattle.listing.specs.Numbering.{Numbering, lead, text_of}
use Rattle.std.specs.Prelude.{None}
use Rattle.listing.proofs.Numberings.{no_line, one_line}

-- the line of what is said
unfoldable line_said : Said → List ℕ
line_said more = []
line_said (frame h c) = frame_line (get_or c 0 0) (get_or c 2 0) (length c - 4)
line_said (refused row) = refusal_line row

-- by the reading
line_said_lem : (h : Bool) (a : reading.Answer) → line_said (said_of h (says a)) ≡ line_of (row a)
unfolding line_said said_of row
line_said_lem h (reading.InvalidSync c) = refl
line_said_lem h (reading.InvalidPacketLength c) = refl
line_said_lem h (reading.InvalidCrc c) = refl
line_said_lem h (reading.Frame c) = refl

line_read : (h : Bool) (f : First) → line_said (said_of h f) ≡ lines_of (answered f)
unfolding line_said said_of answered lines_of
line_read h stop = refl
line_read h (says a) = line_said_lem h a ∙ sym (line_of_row a) ∙ sym (append-nil (line a))

-- a frame has the size that its length byte says
abbrev Framed : Said → Type 0
Framed more = Unit {0}
Framed (frame h c) = (4 ≤ length c) × (get_or c 1 0 + 2 ≡ length c)
Framed (refused row) = Unit {0}

framed : (h : Bool) {m : ℕ} {s : List ℕ} {f : First} → Case m s f → Framed (said_of h f)
unfolding said_of
framed h (empty l) = tt
framed h (unlisted l u) = tt
framed h (alone l a w) = tt
framed h (bad_length l a b) = tt
framed h (waits p w) = tt
framed h (bad_check p w e) = tt
framed h {m} {s} (whole p w e) =
    let size = length-take-le (frame_length s) s w in
    let good = good_bounds m (get_or s 1 0) p.good in
    let same = get_or-take (frame_length s) s 1 0 (omega arith) in
    (omega arith, omega arith)

-- by the code
frame_in_lem : (n p : ℕ) (s : List ℕ) → Framed (frame true (take n (drop p s)))
    → frame_line_at s p ≡ (let c = take n (drop p s) in frame_line (get_or c 0 0) (get_or c 2 0) (length c - 4))
frame_in_lem n p s (four, size) =
    let c = take n (drop p s) in
    let long = length-take n (drop p s) in
    let first : get_or s p 0 ≡ get_or c 0 0 =
    ap (λ (k : ℕ). get_or s k 0) (sym (add-zero p)) ∙ sym (get_or-drop p s 0 0) ∙ sym (get_or-take n (drop p s) 0 0 (omega arith)) in
    let second : get_or s (p + 1) 0 ≡ get_or c 1 0 = sym (get_or-drop p s 1 0) ∙ sym (get_or-take n (drop p s) 1 0 (omega arith)) in
    let third : get_or s (p + 2) 0 ≡ get_or c 2 0 = sym (get_or-drop p s 2 0) ∙ sym (get_or-take n (drop p s) 2 0 (omega arith)) in
    let payload : get_or s (p + 1) 0 - 2 ≡ length c - 4 = omega arith in
    ap (λ (k : ℕ). frame_line k (get_or s (p + 2) 0) (get_or s (p + 1) 0 - 2)) first
    ∙ ap (λ (k : ℕ). frame_line (get_or c 0 0) k (get_or s (p + 1) 0 - 2)) third
    ∙ ap (frame_line (get_or c 0 0) (get_or c 2 0)) payload

line_meant : (a : Reply) (piece places : List ℕ) → Framed (meaning_of a piece places) → line_by a piece places ≡ line_said (meaning_of a piece places)
unfolding line_by meaning_of line_said
line_meant More piece places w = refl
line_meant (Frame (InPiece n)) piece places w = frame_in_lem n 0 piece w
line_meant (Frame (InHeld p n)) piece places w = frame_in_lem n p places w
line_meant (Refused r) piece places w = refl

-- one call: the line that is written of it is that of the reading's answer, if any
module _ {m : ℕ} {before : List ℕ} {start end : ℕ} {input after : List ℕ} {r : Moved} (moved : Moves m before start end input after r) where
  abbrev held : List ℕ
  held = held_in before start end

  abbrev answer : First
  answer = (call m held input).answer

  frames : Framed (meaning_of r.reply input after)
  frames =
      subst Framed (sym (said_is moved))
      (subst (λ (f : First). Framed (said_of (ltb 0 (length held)) f)) (answers_first m held input) (framed (ltb 0 (length held)) (cases m (held ++ input))))

  pub line_is : lines_of (answered answer) ≡ line_by r.reply input after
  line_is = sym (line_meant r.reply input after frames ∙ ap line_said (said_is moved) ∙ line_read (ltb 0 (length held)) answer)

-- a turn with a numbering: nothing where it asks for more, else what stands before the line, and the line
module _ (n : Numbering) {before : List ℕ} {start end : ℕ} {input after : List ℕ} {r : Moved} (good : is_span (length before) start end ≡ true)
    (steps : Steps (length before) before start end input after r) where
  abbrev said : First
  said = (call (length before) (held_in before start end) input).answer

  pub turn_asks : asks_for_more r.reply ≡ true → text_of n (answered said) ≡ []
  turn_asks asked = no_line n (loop.asks (loop.begin before start end input good) steps asked)

  pub turn_says : asks_for_more r.reply ≡ false → text_of n (answered said) ≡ lead n ++ line_by r.reply input after
  turn_says answers =
      loop.answers (loop.begin before start end input good) steps answers
      (λ a e. one_line n a e ∙ ap (λ (l : List ℕ). lead n ++ l) (sym (one_line None a e) ∙ line_is (steps.moves good)))
