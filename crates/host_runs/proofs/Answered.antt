-- What a host reads off an answer is what the call said; and whether an entry succeeded.
-- Assumes nothing.
use mathlib.Core.Path.{◌≡◌, refl, sym, ap, ap₂, ◌∙◌}
use mathlib.Core.List.{List, [], ◌∷◌, map}
use Prim.Native.Nat.{ℕ, ◌+◌, ◌≤◌, ◌<◌}
use native.Mathlib.Omega.{arith}
use mathlib.Core.Bool.{true}
use borrow.Author.Tests.{ne_eqb, lt-ltb}
use lib.Dec.{leb, lit<}
use lib.ListN.{length, get_or}
use Rattle.base.specs.Choice.{when◌then◌else◌}
use Rattle.base.specs.Parts.{placed}
use Rattle.base.proofs.Parts.{placed_fits, pasted_front}
use Rattle.base.proofs.Tests.{by_test}
use Rattle.refusals.specs.Row.{row_of, number_of}
use Rattle.refusals.specs.declared.Refusal.{Refusal}
use Rattle.refusals.specs.declared.Refusal.TheVariants.{BufferOverflow}
use Rattle.refusals.proofs.Rows.{number_bounds}
use Rattle.writing.specs.Writing.{Image, bytes, refused, wrote_row, write_of}
use Rattle.reading.specs.Reading.{limit}
use Rattle.stream.specs.Step.{meaning_of, asks_for_more}
use Rattle.stream.specs.Rows.{rows_said, rows_of}
use Rattle.stream.specs.declared.step.Place.TheVariants.{InPiece, InHeld}
use Rattle.stream.specs.declared.step.Reply.{Reply}
use Rattle.stream.specs.declared.step.Reply.TheVariants.{More, Frame, Refused}
use Rattle.stream.proofs.Unique.{number_said, says_framing}
use Rattle.host_state.specs.State.{places_in, position_in, is_state}
use Rattle.host_state.specs.Step.{can_number}
use Rattle.host_state.proofs.States.{has_size_lem, state_size, part_of_places}
use Rattle.host_state.proofs.Laws.{moves}
use Rattle.host_answer.specs.Answer.{packed, answer_row, answers}
use Rattle.host_answer.specs.Reply.{answer_reply, says_where, told, Calls}
use Rattle.host_answer.proofs.Rows.{not_success}
use Rattle.host_answer.proofs.Packing.{Whole, unpack}
use Rattle.host_answer.proofs.Fits.{Fits, call_fits, frame_inside, Short}
use Rattle.host_answer.proofs.Numbers.{row_bytes}
use Rattle.host_answer.proofs.Calls.{reply_whole}
use Rattle.host_answer.proofs.Slices.{more_keeps}
use Rattle.host_runs.specs.Answered.{number_in, taken_in, len_in, said_in, told_in, said_by}

-- ---- A call of the stream

module _ (t : ℕ) (input state : List ℕ) where
  said_by_lem : (a : Reply) → Fits (answer_reply t a) → ((p n : ℕ) → a ≡ Frame (InHeld p n) → p + n ≤ limit) → said_in (packed (answer_reply t a)) input state ≡ map said_by (rows_of a input (places_in state))
  unfolding answer_reply said_in said_by meaning_of rows_said
  said_by_lem More f inside = rw (unpack _ (reply_whole t More f))
  said_by_lem (Frame (InPiece n)) f inside = rw (unpack _ (reply_whole t (Frame (InPiece n)) f))
  said_by_lem (Frame (InHeld p n)) f inside = rw (unpack _ (reply_whole t (Frame (InHeld p n)) f), part_of_places state p n (inside p n refl))
  said_by_lem (Refused r) f inside =
      rw (unpack _ (reply_whole t (Refused r) f), ne_eqb (number_of r) 255 (λ e. omega (arith, number_bounds r)), not_success r)

  taken_by : (a : Reply) → Fits (answer_reply t a) → taken_in (packed (answer_reply t a)) ≡ t
  unfolding answer_reply
  taken_by More f = rw (unpack _ (reply_whole t More f))
  taken_by (Frame (InPiece n)) f = rw (unpack _ (reply_whole t (Frame (InPiece n)) f))
  taken_by (Frame (InHeld p n)) f = rw (unpack _ (reply_whole t (Frame (InHeld p n)) f))
  taken_by (Refused r) f = rw (unpack _ (reply_whole t (Refused r) f))

  -- 255 is more, and nothing else
  asks_by : (a : Reply) → Fits (answer_reply t a) → number_in (packed (answer_reply t a)) ≡ 255 → a ≡ More
  unfolding answer_reply
  asks_by More f e = refl
  asks_by (Frame (InPiece n)) f e =
      let z : ◌≡◌ {A = ℕ} 0 255 = rw (unpack _ (reply_whole t (Frame (InPiece n)) f)) at e in absurd (omega arith)
  asks_by (Frame (InHeld p n)) f e =
      let z : ◌≡◌ {A = ℕ} 0 255 = rw (unpack _ (reply_whole t (Frame (InHeld p n)) f)) at e in absurd (omega arith)
  asks_by (Refused r) f e =
      let z : number_of r ≡ 255 = rw (unpack _ (reply_whole t (Refused r) f)) at e in absurd (omega (arith, number_bounds r))

  -- where it says that it began
  told_by_lem : (a : Reply) → Fits (answer_reply t a) → (slice : List ℕ) → told_in (packed (answer_reply t a)) slice ≡ (when says_where a then get_or slice 0 0 ∷ [] else [])
  unfolding answer_reply told_in says_where
  told_by_lem More f slice = rw (unpack _ (reply_whole t More f))
  told_by_lem (Frame (InPiece n)) f slice = rw (unpack _ (reply_whole t (Frame (InPiece n)) f))
  told_by_lem (Frame (InHeld p n)) f slice = rw (unpack _ (reply_whole t (Frame (InHeld p n)) f))
  told_by_lem (Refused r) f slice = rw (unpack _ (reply_whole t (Refused r) f))

-- the first place of a slice that has one
placed_first : (began place : ℕ) (rest : List ℕ) → get_or (placed (place ∷ rest) 0 (began ∷ [])) 0 0 ≡ began
placed_first began place rest =
    ap (λ (l : List ℕ). get_or l 0 0) (placed_fits (place ∷ rest) 0 (began ∷ []) (omega arith) ∙ pasted_front (place ∷ rest) (began ∷ []))

-- the answers of the reading that a reply stands for are numbered where it says that it began
where_by : (a : Reply) (piece places : List ℕ) (began place : ℕ) (rest : List ℕ) → number_said (meaning_of a piece places) ≤ 3
    → (when says_where a then get_or (told a began (place ∷ rest)) 0 0 ∷ [] else []) ≡ (when asks_for_more a then [] else began ∷ [])
unfolding told says_where number_said meaning_of
where_by More piece places began place rest low = refl
where_by (Frame p) piece places began place rest low = ap (λ (n : ℕ). n ∷ []) (placed_first began place rest)
where_by (Refused r) piece places began place rest low = simp (lt-ltb (number_of r) 4 (omega arith)) (ap (λ (n : ℕ). n ∷ []) (placed_first began place rest))

module _ {before input out after outAfter : List ℕ} {r : ℕ} (c : Calls before input out after outAfter r) where
  pub said_is : said_in r input after ≡ map said_by (rows_of c.answered.reply input (places_in after))
  said_is =
      ap (λ (n : ℕ). said_in n input after) c.packs
      ∙ said_by_lem c.answered.taken input after c.answered.reply (call_fits c.steps) (frame_inside c.steps)

  pub taken_is : taken_in r ≡ c.answered.taken
  taken_is = ap taken_in c.packs ∙ taken_by c.answered.taken input after c.answered.reply (call_fits c.steps)

  pub asks_is : number_in r ≡ 255 → c.answered.reply ≡ More
  asks_is e = asks_by c.answered.taken input after c.answered.reply (call_fits c.steps) (ap number_in (sym c.packs) ∙ e)

  -- where more is asked for, the slice stays
  pub asks_keeps : number_in r ≡ 255 → outAfter ≡ out
  asks_keeps e = more_keeps c (asks_is e)

-- what the slice is told of a call that moves: where it began, if it answers
pub told_is : {before input : List ℕ} {place : ℕ} {rest after slice : List ℕ} {r : ℕ} (c : Calls before input (place ∷ rest) after slice r)
    → is_state before ≡ true → can_number before input ≡ true
    → told_in r slice ≡ (when asks_for_more c.answered.reply then [] else position_in before ∷ [])
told_is {before} {input} {place} {rest} {after} {slice} {r} c good can =
    let a = c.answered.reply in
    let began = c.steps.began (has_size_lem before (state_size before good)) in
    ap (λ (n : ℕ). told_in n slice) c.packs
    ∙ told_by_lem c.answered.taken input after a (call_fits c.steps) slice
    ∙ ap (λ (l : List ℕ). when says_where a then get_or l 0 0 ∷ [] else []) c.tells
    ∙ where_by a input (places_in after) c.answered.position place rest (says_framing (moves c.steps good can))
    ∙ ap (λ (p : ℕ). when asks_for_more a then [] else p ∷ []) began

-- ---- An entry that answers by a row

-- a refusal's number is not 0
pub refused_number : {A : Type 0} {n : ℕ} {after : A} {x : List ℕ × A} (r : Refusal) → (n, after) ≡ answers x → x.0 ≡ row_of r → number_in n ≡ 0 → ⊥
refused_number {A} {n} {after} {x} r e is zero =
    let bytes = row_bytes r (ap (λ (y : ℕ × A). y.0) e) is in
    let number : number_of r ≡ 0 = sym (ap (λ (b : List ℕ). get_or b 0 0) bytes) ∙ zero in
    omega (arith, number_bounds r)

-- a count is read off as it is
count_whole : (n : ℕ) → n < 256 → Whole (answer_row (0 ∷ n ∷ []))
unfolding answer_row
count_whole n few =
    record { number = lit< tt; taken = lit< tt; in_state = lit< tt; at = lit< tt; len = few; first = lit< tt; second = lit< tt }

pub count_is : {A : Type 0} {r n : ℕ} {after : A} {x : List ℕ × A} → (r, after) ≡ answers x → x.0 ≡ 0 ∷ n ∷ [] → n < 256 → len_in r ≡ n
unfolding answer_row
count_is {A} {r} {n} e is few =
    ap (λ (y : ℕ × A). len_in y.0) e ∙ rw (is, unpack _ (count_whole n few))

-- a write that succeeded wrote that many bytes
pub wrote_is : (image : Image) (out : List ℕ) {r : ℕ} {after : List ℕ} → Short image → (r, after) ≡ answers (write_of image out) → number_in r ≡ 0
    → (wrote_row (len_in r), after) ≡ write_of image out
unfolding write_of
wrote_is (bytes bs) out {r} {after} few e zero =
    by_test (leb (length bs) (length out))
    (λ t.
    let x : (write_of (bytes bs) out).0 ≡ wrote_row (length bs) = simp t in
    let n : len_in r ≡ length bs = count_is e x few in
    let same : after ≡ (write_of (bytes bs) out).1 = ap (λ (y : ℕ × List ℕ). y.1) e in
    ap₂ (λ (k : ℕ) (a : List ℕ). (wrote_row k, a)) n same ∙ ap (λ (row : List ℕ). (row, (write_of (bytes bs) out).1)) (sym x))
    (λ t. let x : (write_of (bytes bs) out).0 ≡ row_of BufferOverflow = simp t in absurd (refused_number BufferOverflow e x zero))
wrote_is (refused k) out few e zero = absurd (refused_number k e refl zero)
