-- What a refusal of a call carries are bytes, where the state and the input are bytes: the answer has each value whole (RULES 14).
-- Assumes nothing.
use mathlib.Core.Path.{◌≡◌, sym, ap, ap₂, ◌∙◌, subst}
use mathlib.Core.Bool.{Bool}
use mathlib.Core.List.{List, [], ◌∷◌, ◌++◌}
use Prim.Native.Nat.{ℕ, zero, suc, ◌-◌, ◌<◌}
use native.Mathlib.Nat.{mod-eq_of_lt}
use lib.Dec.{ltb, lit<}
use lib.ListN.{length, get_or}
use Rattle.base.specs.Bytes.{Bytes}
use Rattle.base.proofs.Parts.{bytes_part}
use Rattle.base.proofs.Tests.{by_test}
use Rattle.refusals.specs.Row.{row_of, number_of}
use Rattle.refusals.specs.declared.Refusal.{Refusal}
use Rattle.refusals.specs.declared.Refusal.TheVariants.{BadState, PositionRange}
use Rattle.crc.proofs.Laws.{remainder_lt}
use Rattle.reading.specs.Answer as reading
use Rattle.reading.specs.Answer.{Answer, covered, row, candidate}
use Rattle.reading.specs.Reading.{limit, First, stop, says, first}
use Rattle.reading.specs.Call.{call}
use Rattle.reading.proofs.First.{stands}
use Rattle.reading.proofs.Call.{answers_first}
use Rattle.stream.specs.Step.{Said, more, frame, refused, said_of, meaning_of, Outcome}
use Rattle.stream.specs.declared.step.Reply.{Reply}
use Rattle.stream.specs.declared.step.Reply.TheVariants.{Refused}
use Rattle.host_state.specs.State.{start_in, end_in, places_in, held_by, is_state}
use Rattle.host_state.specs.Step.{can_number}
use Rattle.host_state.proofs.Laws.{invalid_refused, beyond_refused, moves}
use Rattle.host_answer.specs.Reply.{Calls}
use Rattle.host_answer.specs.Seen.{unpacked}
use Rattle.host.proofs.Refusals.{call_refuses}

-- both values of a row are bytes
abbrev Whole : List ℕ → Type 0
Whole line = (get_or line 1 0 < 256) × (get_or line 2 0 < 256)

bytes_append : (a b : List ℕ) → Bytes a → Bytes b → Bytes (a ++ b)
bytes_append [] b p q i = q i
bytes_append (x ∷ a) b p q zero = p 0
bytes_append (x ∷ a) b p q (suc i) = bytes_append a b (λ j. p (suc j)) q i

row_whole : (a : Answer) → Bytes (candidate a) → Whole (row a)
unfolding row candidate
row_whole (reading.InvalidSync c) b = (b 0, lit< tt)
row_whole (reading.InvalidPacketLength c) b = (b 1, lit< tt)
row_whole (reading.InvalidCrc c) b = (remainder_lt (covered c), b (length c - 1))
row_whole (reading.Frame c) b = (b 0, b 1)

answer_whole : (m : ℕ) (s : List ℕ) (a : Answer) → Bytes s → first m s ≡ says a → Whole (row a)
answer_whole m s a b e = row_whole a (subst Bytes (stands m s a e).begins (bytes_part s 0 (length (candidate a)) b))

-- the row of what is said
abbrev row_in : Said → List ℕ
row_in more = []
row_in (frame of_held bytes) = []
row_in (refused line) = line

said_whole : (m : ℕ) (s : List ℕ) (of_held : Bool) (f : First) → Bytes s → first m s ≡ f → Whole (row_in (said_of of_held f))
unfolding said_of
said_whole m s of_held stop b e = (lit< tt, lit< tt)
said_whole m s of_held (says (reading.InvalidSync c)) b e = answer_whole m s (reading.InvalidSync c) b e
said_whole m s of_held (says (reading.InvalidPacketLength c)) b e = answer_whole m s (reading.InvalidPacketLength c) b e
said_whole m s of_held (says (reading.InvalidCrc c)) b e = answer_whole m s (reading.InvalidCrc c) b e
said_whole m s of_held (says (reading.Frame c)) b e = (lit< tt, lit< tt)

none_carried : (r x : Refusal) {a : Reply} → Whole (row_of x) → a ≡ Refused r → a ≡ Refused x → Whole (row_of r)
none_carried r x w e bad = let is : r ≡ x = cc in rw is w

module _ {before input out after outAfter : List ℕ} {n : ℕ} (c : Calls before input out after outAfter n) (r : Refusal) (is : c.answered.reply ≡ Refused r)
    (bs : Bytes before) (bi : Bytes input) where
  values_whole : Whole (row_of r)
  unfolding meaning_of
  values_whole =
      by_test (is_state before)
      (λ good.
      by_test (can_number before input)
      (λ can.
      let held = held_by before in
      let places : Bytes (places_in before) = bytes_part before 2 limit bs in
      let all = bytes_append held input (bytes_part (places_in before) (start_in before) (end_in before - start_in before) places) bi in
      let said = ap (λ (a : Reply). meaning_of a input (places_in after)) (sym is) ∙ ap (λ (o : Outcome). o.said) (moves c.steps good can).outcome in
      rw (ap row_in said) (said_whole limit (held ++ input) (ltb 0 (length held)) (call limit held input).answer all (answers_first limit held input)))
      (λ far. none_carried r PositionRange (lit< tt, lit< tt) is (beyond_refused c.steps good far).1))
      (λ bad. none_carried r BadState (lit< tt, lit< tt) is (invalid_refused c.steps bad).1)

  pub call_refuses_whole : unpacked 8 n ≡ number_of r ∷ c.answered.taken ∷ 0 ∷ 0 ∷ 0 ∷ get_or (row_of r) 1 0 ∷ get_or (row_of r) 2 0 ∷ 0 ∷ []
  call_refuses_whole =
      call_refuses r c is
      ∙ ap₂ (λ (x y : ℕ). number_of r ∷ c.answered.taken ∷ 0 ∷ 0 ∷ 0 ∷ x ∷ y ∷ 0 ∷ []) (mod-eq_of_lt values_whole.0) (mod-eq_of_lt values_whole.1)
