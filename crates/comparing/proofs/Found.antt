-- What the code finds first in what is left of an upload is what the reading has there.
-- Assumes nothing.
use mathlib.Core.Path.{◌≡◌, refl, sym, ap, ◌∙◌, subst}
use mathlib.Core.Bool.{Bool, true, false, true≢false}
use mathlib.Core.List.{List, [], ◌∷◌, ◌++◌, append-nil}
use Prim.Native.Nat.{ℕ, ◌≤◌}
use native.Mathlib.Omega.{arith}
use lib.ListN.{length, take}
use Rattle.reading.specs.Answer as reading
use Rattle.reading.specs.Answer.{drops, candidate}
use Rattle.reading.specs.Reading.{limit, First, stop, says, stops, first}
use Rattle.reading.specs.Call.{Call, call, dropped_by}
use Rattle.reading.specs.History.{answered}
use Rattle.reading.proofs.First.{stands, only_candidate, stops_short}
use Rattle.reading.proofs.Call.{answers_first, answers_input, call_takes}
use Rattle.base.specs.Same.{same_bytes}
use Rattle.base.proofs.Same.{same_bytes_lem}
use Rattle.stream.specs.Step.{Said, more, frame, refused, said_of, meaning_of, asks_for_more, is_span, Moves, Steps}
use Rattle.stream.specs.declared.step.Place.TheVariants.{InPiece, InHeld}
use Rattle.stream.specs.declared.step.Reply.{Reply}
use Rattle.stream.specs.declared.step.Reply.TheVariants.{More, Frame, Refused}
use Rattle.stream.specs.declared.step.Moved.{Moved}
use Rattle.stream.proofs.Replies.{said_is, taken_is}
use Rattle.stream.proofs.Loop.{stops_by, asks_where_stops}
use Rattle.listing.proofs.Said.{line_is}
use Rattle.lines.specs.Lines.{line_end, line, lines_of}
use Rattle.lines.specs.Put.{line_by}
use Rattle.pairs.specs.Pairs.{side_of}
use Rattle.pairs.specs.Comparison.{side_text}
use Rattle.comparing.specs.Next.{Finds, is_frame, Again}
use Rattle.comparing.specs.declared.next.Next.{Next}
use Rattle.comparing.proofs.Over.{line_ends}

-- ---- With nothing held, nothing said is of held bytes: so no place is looked at

of_held : Said → Bool
of_held more = false
of_held (frame h c) = h
of_held (refused row) = false

never_held : (f : First) → of_held (said_of false f) ≡ false
unfolding said_of of_held
never_held stop = refl
never_held (says (reading.InvalidSync c)) = refl
never_held (says (reading.InvalidPacketLength c)) = refl
never_held (says (reading.InvalidCrc c)) = refl
never_held (says (reading.Frame c)) = refl

any_places : (reply : Reply) (input p q : List ℕ) (f : First) → meaning_of reply input p ≡ said_of false f
    → (meaning_of reply input q ≡ said_of false f) × (line_by reply input q ≡ line_by reply input p)
unfolding meaning_of line_by of_held
any_places More input p q f e = (e, refl)
any_places (Frame (InPiece n)) input p q f e = (e, refl)
any_places (Frame (InHeld at n)) input p q f e = absurd (true≢false (ap of_held e ∙ never_held f))
any_places (Refused r) input p q f e = (e, refl)

-- ---- One call with nothing held

module _ {before after input : List ℕ} {r : Moved} (size : length before ≡ limit) (steps : Steps (length before) before 0 0 input after r) where
  abbrev f : First
  f = first limit input

  moved : Moves limit before 0 0 input after r
  moved =
      subst (λ (m : ℕ). Moves m before 0 0 input after r) size (steps.moves (ap (λ (m : ℕ). is_span m 0 0) size))

  is_first : (call limit [] input).answer ≡ f
  is_first = sym (answers_first limit [] input)

  said : meaning_of r.reply input after ≡ said_of false f
  said = said_is moved ∙ ap (said_of false) is_first

  line_found : line_by r.reply input [] ≡ lines_of (answered f)
  line_found = (any_places r.reply input after [] f said).1 ∙ sym (line_is moved) ∙ ap (λ (x : First). lines_of (answered x)) is_first

  asks_first : asks_for_more r.reply ≡ stops f
  asks_first = asks_where_stops moved ∙ ap stops is_first

  drops_by : (x : First) → f ≡ x → stops x ≡ false → r.taken ≡ dropped_by x
  unfolding stops dropped_by
  drops_by stop e none = absurd (true≢false none)
  drops_by (says a) e none = taken_is moved ∙ ap (λ (c : Call). c.taken) (answers_input limit input a e)

  none_by : (x : First) → stops x ≡ true → 0 ≡ dropped_by x
  unfolding stops dropped_by
  none_by stop e = refl
  none_by (says a) e = absurd (true≢false (sym e))

  pub finds_none : asks_for_more r.reply ≡ true → Finds input (record { reply = r.reply; size = 0 })
  finds_none asked = record {
    said = (any_places r.reply input after [] f said).0;
    asks = asks_first;
    size_is = none_by f (sym asks_first ∙ asked);
    inside = omega arith;
    line_is = line_found;
  }

  pub finds_one : asks_for_more r.reply ≡ false → Finds input (record { reply = r.reply; size = r.taken })
  finds_one answered = record {
    said = (any_places r.reply input after [] f said).0;
    asks = asks_first;
    size_is = drops_by f refl (sym asks_first ∙ answered);
    inside = omega (arith, taken_is moved, call_takes limit [] input);
    line_is = line_found;
  }

-- ---- Where there is no answer, fewer bytes are left than the limit

pub short_side : (s : List ℕ) → stops (first limit s) ≡ true → length s ≤ 63
short_side s e = let few = stops_short limit s (omega arith) (stops_by (first limit s) e) in omega (arith, few)

-- ---- The text of a side, with a line's end behind it

pub side_none : (f : First) → stops f ≡ true → side_text (side_of f) ++ line_end ≡ 45 ∷ 10 ∷ []
unfolding stops side_text
side_none stop e = refl
side_none (says a) e = absurd (true≢false (sym e))

pub side_some : (f : First) → stops f ≡ false → side_text (side_of f) ++ line_end ≡ lines_of (answered f)
unfolding stops side_text answered lines_of
side_some stop e = absurd (true≢false e)
side_some (says a) e = sym (line_ends a) ∙ sym (append-nil (line a))

-- ---- A frame, with which the right upload goes on

says_frame : Said → Bool
says_frame more = false
says_frame (frame h c) = true
says_frame (refused row) = false

frame_meant : (reply : Reply) (input : List ℕ) → is_frame reply ≡ says_frame (meaning_of reply input [])
unfolding says_frame meaning_of
frame_meant More input = refl
frame_meant (Frame p) input = refl
frame_meant (Refused r) input = refl

frame_by_lem : {G : Type 0} (f : First) → says_frame (said_of false f) ≡ true → ((c : List ℕ) → f ≡ says (reading.Frame c) → G) → G
unfolding says_frame said_of
frame_by_lem stop e go = absurd (true≢false (sym e))
frame_by_lem (says (reading.InvalidSync c)) e go = absurd (true≢false (sym e))
frame_by_lem (says (reading.InvalidPacketLength c)) e go = absurd (true≢false (sym e))
frame_by_lem (says (reading.InvalidCrc c)) e go = absurd (true≢false (sym e))
frame_by_lem (says (reading.Frame c)) e go = go c refl

module _ {left : List ℕ} {r : Next} (found : Finds left r) where
  pub frame_found : {G : Type 0} → is_frame r.reply ≡ true
      → ((c : List ℕ) → first limit left ≡ says (reading.Frame c) → take r.size left ≡ c → r.size ≡ length c → G) → G
  unfolding dropped_by drops candidate
  frame_found is go =
      frame_by_lem (first limit left) (sym (frame_meant r.reply left ∙ ap says_frame found.said) ∙ is)
      (λ c e.
      let size : r.size ≡ length c = found.size_is ∙ ap dropped_by e in
      go c e (ap (λ (n : ℕ). take n left) size ∙ (stands limit left (reading.Frame c) e).begins) size)

  pub again : (right : List ℕ) → is_frame r.reply ≡ true → r.size ≤ length right → same_bytes (take r.size left) (take r.size right) ≡ true
      → Again left right r
  unfolding candidate stops
  again right is there alike =
      frame_found is
      (λ c e begins size.
      let same : take (length c) right ≡ c =
      ap (λ (n : ℕ). take n right) (sym size) ∙ sym (same_bytes_lem (take r.size left) (take r.size right) alike) ∙ begins in
      record { some = ap stops e; same = only_candidate limit left right (reading.Frame c) e same ∙ sym e; inside = there })
