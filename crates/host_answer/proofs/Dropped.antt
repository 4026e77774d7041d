-- What an answer dropped, as the code reads it off the reply, is what the reading's answer drops; and which replies say where they began.
-- Assumes nothing.
use mathlib.Core.Path.{◌≡◌, refl, sym, ap, ◌∙◌}
use mathlib.Core.Bool.{Bool, true, true≢false}
use mathlib.Core.List.{List, [], ◌∷◌, ◌++◌}
use Prim.Native.Nat.{ℕ, ◌≤◌}
use native.Mathlib.Omega.{arith}
use borrow.Author.Tests.{lt-ltb}
use lib.ListN.{length, drop, length-drop}
use lib.Seq.{length-take-le}
use Rattle.base.specs.Parts.{placed}
use Rattle.refusals.specs.Row.{number_of}
use Rattle.reading.specs.Answer as reading
use Rattle.reading.specs.Answer.{drops}
use Rattle.reading.specs.Reading.{First, stop, says, stops, first}
use Rattle.reading.specs.Call.{dropped_by, call}
use Rattle.reading.proofs.First.{stands}
use Rattle.reading.proofs.Call.{answers_first}
use Rattle.stream.specs.Places.{held_in}
use Rattle.stream.specs.Step.{Said, more, frame, refused, said_of, meaning_of, asks_for_more, Placed, Moves}
use Rattle.stream.specs.declared.step.Place.TheVariants.{InPiece, InHeld}
use Rattle.stream.specs.declared.step.Reply.{Reply}
use Rattle.stream.specs.declared.step.Reply.TheVariants.{More, Frame, Refused}
use Rattle.stream.specs.declared.step.Moved.{Moved}
use Rattle.stream.proofs.Replies.{said_is}
use Rattle.stream.proofs.Loop.{asks_where_stops}
use Rattle.stream.proofs.Unique.{number_said, says_framing}
use Rattle.host_answer.specs.Reply.{dropped_in, says_where, told}

dropped_said : Said → ℕ
dropped_said more = 0
dropped_said (frame of_held bytes) = length bytes
dropped_said (refused row) = 1

said_drops : (b : Bool) (f : First) → dropped_said (said_of b f) ≡ dropped_by f
unfolding dropped_said said_of dropped_by drops
said_drops b stop = refl
said_drops b (says (reading.InvalidSync c)) = refl
said_drops b (says (reading.InvalidPacketLength c)) = refl
said_drops b (says (reading.InvalidCrc c)) = refl
said_drops b (says (reading.Frame c)) = refl

meant_drops : (m : ℕ) (piece places : List ℕ) (a : Reply) → length places ≡ m → Placed m piece a → dropped_said (meaning_of a piece places) ≡ dropped_in a
unfolding dropped_said meaning_of dropped_in
meant_drops m piece places More full p = refl
meant_drops m piece places (Frame (InPiece n)) full p = length-take-le n piece p
meant_drops m piece places (Frame (InHeld at n)) full p = length-take-le n (drop at places) (omega (arith, length-drop at places))
meant_drops m piece places (Refused r) full p = refl

-- an answer drops a byte at least
some_dropped : (m : ℕ) (s : List ℕ) (f : First) → first m s ≡ f → dropped_by f ≡ 0 → f ≡ stop
unfolding dropped_by
some_dropped m s stop e none = refl
some_dropped m s (says a) e none = let h = stands m s a e in absurd (omega (arith, h.some))

told_more : (a : Reply) (began : ℕ) (out : List ℕ) → asks_for_more a ≡ true → out ≡ told a began out
unfolding told says_where
told_more More began out e = refl
told_more (Frame p) began out e = absurd (true≢false (sym e))
told_more (Refused r) began out e = absurd (true≢false (sym e))

told_where : (a : Reply) (piece places : List ℕ) (began : ℕ) (out : List ℕ) → (dropped_in a ≡ 0 → ⊥) → number_said (meaning_of a piece places) ≤ 3
    → placed out 0 (began ∷ []) ≡ told a began out
unfolding told says_where dropped_in number_said meaning_of
told_where More piece places began out some low = absurd (some refl)
told_where (Frame p) piece places began out some low = refl
told_where (Refused r) piece places began out some low = simp (lt-ltb (number_of r) 4 (omega arith))

module _ {m : ℕ} {before : List ℕ} {start end : ℕ} {input after : List ℕ} {r : Moved} (full : length after ≡ m) (moved : Moves m before start end input after r) where
  pub dropped_is : dropped_in r.reply ≡ dropped_by (call m (held_in before start end) input).answer
  dropped_is =
      sym (meant_drops m input after r.reply full moved.placed) ∙ ap dropped_said (said_is moved) ∙ said_drops _ (call m (held_in before start end) input).answer

  -- nothing dropped: the call asks for more, and the slice stays
  pub none_told : (began : ℕ) (out : List ℕ) → dropped_in r.reply ≡ 0 → out ≡ told r.reply began out
  unfolding stops
  none_told began out none =
      let held = held_in before start end in
      let asks = some_dropped m (held ++ input) (call m held input).answer (answers_first m held input) (sym dropped_is ∙ none) in
      told_more r.reply began out (asks_where_stops moved ∙ ap stops asks)

  -- else it says where it began
  pub where_told : (began : ℕ) (out : List ℕ) → (dropped_in r.reply ≡ 0 → ⊥) → placed out 0 (began ∷ []) ≡ told r.reply began out
  where_told began out some = told_where r.reply input after began out some (says_framing moved)
