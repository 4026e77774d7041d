-- A frame that stands whole in the piece: what a call says of it.
-- Assumes nothing.
use Rattle.std.specs.Prelude.{Ok, Err}
use mathlib.Core.Path.{◌≡◌, refl, sym, ap, ap₂, ◌∙◌, subst}
use mathlib.Core.Bool.{true, false}
use mathlib.Core.List.{List, [], ◌∷◌, ◌++◌, append_assoc, append-nil}
use Prim.Native.Nat.{ℕ, zero, suc, ◌+◌, ◌-◌, ◌≤◌, ◌<◌}
use native.Mathlib.Omega.{arith}
use borrow.Author.Tests.{ne_eqb}
use lib.Dec.{eqb, lit<}
use lib.ListN.{length, get_or, take, drop, length-append, take-append-drop}
use lib.Seq.{take-suc, take_all, length-take-le, get_or-take, get_or-drop, drop-drop, take-take, drop-cons}
use Rattle.base.specs.Parts.{part}
use Rattle.base.proofs.Tests.{by_test}
use Rattle.base.proofs.Parts.{drop_take, length_part}
use Rattle.crc.specs.declared.Mismatch.{Mismatch}
use Rattle.crc.specs.Check.{check_of}
use Rattle.crc.specs.Remainder.{remainder}
use Rattle.crc.specs.Check.{Check}
use Rattle.packets.specs.Listed.{listed}
use Rattle.reading.specs.Answer.{covered, carried}
use Rattle.reading.specs.Reading.{limit, passes}
use Rattle.kit_log.specs.Entry.{Entry}
use Rattle.kit_log.specs.Reading.{State, frame, refused, boundary, on, entry, fine, feed_frame, feed, takes}
use Rattle.kit_log.specs.Strings.{Begins}
use Rattle.kit_log.specs.Call.{gives, refuses, later, call}
use Rattle.log_reader.specs.State.{state_of, is_state}
use Rattle.log_reader.specs.Reader.{said_by, Runs}
use Rattle.log_reader.specs.Parts.{FedNumber, FedFrame, InOne}
use Rattle.log_reader.specs.declared.Wanted.TheVariants.{Seconds}
use Rattle.log_reader.specs.declared.Wanted.{Wanted}
use Rattle.log_reader.specs.declared.Turn.{Turn}
use Rattle.log_reader.specs.declared.Turn.TheVariants as turn
use Rattle.refusals.specs.declared.Refusal.{Refusal}
use Rattle.refusals.specs.declared.Refusal.TheVariants.{InvalidFrame}
use Rattle.log_reader.specs.declared.Reader.{Reader}
use Rattle.log_reader.specs.declared.Reader.TheVariants.{Number, Frame, Refused}
use Rattle.log_reader.specs.declared.Answer.TheVariants as answer
use Rattle.log_reader.specs.declared.Place.TheVariants as place
use Rattle.log_reader.specs.declared.Answered.{Answered}
use Rattle.kit_log.proofs.History.{call_on, call_entry, call_refused}
use Rattle.kit_log.proofs.Agrees.{begins_front, feed_part, feed_whole, feed_bad, snoc}
use Rattle.kit_log.proofs.Frames.{begins_fine, fine_begins, says_fine, fine_says}
use Rattle.log_reader.proofs.FrameSteps.{Begun, begun, right_says, wrong_says}
use Rattle.log_reader.proofs.Readers.{of_logs_10, stands_refused, stands_fresh, state_room}
use Rattle.log_reader.proofs.Turns.{later_later, Going, Taken, turn_number, turn_frame}

-- ---- calls inside a frame

module _ (t n : ℕ) (h : List ℕ) (b : ℕ) (s : List ℕ) where
  byte_on : {st : State} → feed_frame t n (h ++ b ∷ []) ≡ on st → call (frame t n h) (b ∷ s) ≡ later 1 (call st s)
  unfolding feed takes
  byte_on {st} e = call_on (frame t n h) st b s e

  byte_entry : {x : Entry} → feed_frame t n (h ++ b ∷ []) ≡ entry x → call (frame t n h) (b ∷ s) ≡ record { said = gives x; taken = 1; state = boundary }
  unfolding feed takes
  byte_entry {x} e = call_entry (frame t n h) x b s e

  byte_bad : fine n (h ++ b ∷ []) ≡ false → call (frame t n h) (b ∷ s) ≡ record { said = refuses InvalidFrame; taken = 1; state = refused InvalidFrame }
  byte_bad f = byte_on (feed_bad t n (h ++ b ∷ []) f) ∙ ap (later 1) (call_refused InvalidFrame s)

frame_held : (t n : ℕ) (h q s : List ℕ) → Begins n (h ++ q) → length (h ++ q) < n
    → call (frame t n h) (q ++ s) ≡ later (length q) (call (frame t n (h ++ q)) s)
frame_held t n h [] s b short =
    let c = call (frame t n (h ++ [])) s in
    ap (λ (l : List ℕ). call (frame t n l) s) (sym (append-nil h)) ∙ ap (λ (k : ℕ). record { said = c.said; taken = k; state = c.state }) (omega arith)
frame_held t n h (x ∷ q) s b short =
    let h' = h ++ x ∷ [] in
    let e : h' ++ q ≡ h ++ x ∷ q = append_assoc h (x ∷ []) q in
    let b' : Begins n (h' ++ q) = subst (Begins n) (sym e) b in
    let k : length (h' ++ q) < n = rw e short in
    let f = begins_fine n h' (omega (arith, snoc h x)) (begins_front n h' q b') in
    byte_on t n h x (q ++ s) (feed_part t n h' f (omega (arith, length-append h' q)))
    ∙ ap (later 1) (frame_held t n h' q s b' k)
    ∙ later_later 1 (length q) (call (frame t n (h' ++ q)) s)
    ∙ ap₂ (λ (j : ℕ) (l : List ℕ). later j (call (frame t n l) s)) (omega arith) e

-- ---- a whole one: c, and what stands behind it

module _ (t : ℕ) (c s : List ℕ) (low : 4 ≤ length c) (high : length c ≤ limit) where
  abbrev n : ℕ
  n = length c

  heads : (k : ℕ) → k < n → c ≡ take k c ++ (get_or c k 0 ∷ drop (suc k) c)
  heads k h = sym (take-append-drop k c) ∙ ap (λ (l : List ℕ). take k c ++ l) (drop-cons c k 0 h)

  -- the byte at place k, those before it being fine
  reach : (k : ℕ) → k < n → (1 ≤ k → fine n (take k c) ≡ true)
      → call (frame t n []) (c ++ s) ≡ later k (call (frame t n (take k c)) (get_or c k 0 ∷ (drop (suc k) c ++ s)))
  reach k h f =
      let size : length (take k c) ≡ k = length-take-le k c (omega arith) in
      ap (λ (l : List ℕ). call (frame t n []) (l ++ s)) (heads k h)
      ∙ ap (call (frame t n [])) (append_assoc (take k c) (get_or c k 0 ∷ drop (suc k) c) s)
      ∙ at_place k h f size
    where
      at_place : (k : ℕ) → k < n → (1 ≤ k → fine n (take k c) ≡ true) → length (take k c) ≡ k
          → call (frame t n []) (take k c ++ (get_or c k 0 ∷ (drop (suc k) c ++ s))) ≡ later k (call (frame t n (take k c)) (get_or c k 0 ∷ (drop (suc k) c ++ s)))
      at_place zero h f size =
          let r = call (frame t n []) (get_or c 0 0 ∷ (drop 1 c ++ s)) in
          ap (λ (j : ℕ). record { said = r.said; taken = j; state = r.state }) (omega arith)
      at_place (suc k) h f size =
          let b = fine_begins n (take (suc k) c) low high (omega arith) (omega arith) (f (omega arith)) in
          frame_held t n [] (take (suc k) c) (get_or c (suc k) 0 ∷ (drop (suc (suc k)) c ++ s)) b (omega arith)
          ∙ ap (λ (j : ℕ). later j (call (frame t n (take (suc k) c)) (get_or c (suc k) 0 ∷ (drop (suc (suc k)) c ++ s)))) size

  upto : (k : ℕ) → k < n → take k c ++ get_or c k 0 ∷ [] ≡ take (suc k) c
  upto k h = sym (take-suc c k 0 h)

  -- .. is the first that no valid frame of its length has there
  wrong_at : (k : ℕ) → k < n → (1 ≤ k → fine n (take k c) ≡ true) → fine n (take (suc k) c) ≡ false
      → call (frame t n []) (c ++ s) ≡ record { said = refuses InvalidFrame; taken = k + 1; state = refused InvalidFrame }
  wrong_at k h f bad = reach k h f ∙ ap (later k) (byte_bad t n (take k c) (get_or c k 0) (drop (suc k) c ++ s) (ap (fine n) (upto k h) ∙ bad))

  pub bad_address : listed (get_or c 0 0) ≡ false → call (frame t n []) (c ++ s) ≡ record { said = refuses InvalidFrame; taken = 1; state = refused InvalidFrame }
  unfolding fine
  bad_address a =
      let first : get_or (take 1 c) 0 0 ≡ get_or c 0 0 = get_or-take 1 c 0 0 (lit< tt) in
      wrong_at 0 (omega arith) (λ (k : 1 ≤ 0). absurd (omega arith)) (simp (first, a))

  module _ (a : listed (get_or c 0 0) ≡ true) where
    pub bad_second : (get_or c 1 0 + 2 ≡ n → ⊥) → call (frame t n []) (c ++ s) ≡ record { said = refuses InvalidFrame; taken = 2; state = refused InvalidFrame }
    unfolding fine
    bad_second e =
        let one : length (take 1 c) ≡ 1 = length-take-le 1 c (omega arith) in
        let two : length (take 2 c) ≡ 2 = length-take-le 2 c (omega arith) in
        let f₁ : get_or (take 1 c) 0 0 ≡ get_or c 0 0 = get_or-take 1 c 0 0 (lit< tt) in
        let f₂ : get_or (take 2 c) 0 0 ≡ get_or c 0 0 = get_or-take 2 c 0 0 (lit< tt) in
        let s₂ : get_or (take 2 c) 1 0 ≡ get_or c 1 0 = get_or-take 2 c 1 0 (lit< tt) in
        wrong_at 1 (omega arith) (λ _. simp (f₁, a, one)) (simp (f₂, a, two, s₂, ne_eqb (get_or c 1 0 + 2) n e))

    module _ (e : get_or c 1 0 + 2 ≡ n) where
      front_fine : fine n (take (n - 1) c) ≡ true
      front_fine =
          let size : length (take (n - 1) c) ≡ n - 1 = length-take-le (n - 1) c (omega arith) in
          says_fine n (take (n - 1) c) record {
            address = ap listed (get_or-take (n - 1) c 0 0 (omega arith)) ∙ a;
            second = λ _. ap (λ (x : ℕ). x + 2) (get_or-take (n - 1) c 1 0 (omega arith)) ∙ e;
            check = λ _ (all : n ≤ length (take (n - 1) c)). absurd (omega arith);
          }

      all_of : take (suc (n - 1)) c ≡ c
      all_of = take_all (suc (n - 1)) c (omega arith)

      pub bad_check_lem : passes c ≡ false → call (frame t n []) (c ++ s) ≡ record { said = refuses InvalidFrame; taken = n; state = refused InvalidFrame }
      bad_check_lem q =
          let f : fine n c ≡ false =
          by_test (fine n c) (λ g. absurd (let z : ◌≡◌ {A = ℕ} 0 1 = cc ((fine_says n c g).check (omega arith) (omega arith)) in omega arith)) (λ g. g) in
          let last : n - 1 + 1 ≡ n = omega arith in
          wrong_at (n - 1) (omega arith) (λ _. front_fine) (ap (fine n) all_of ∙ f)
          ∙ ap (λ (k : ℕ). record { said = refuses InvalidFrame; taken = k; state = refused InvalidFrame }) last

      pub good_check : passes c ≡ true → call (frame t n []) (c ++ s) ≡ record { said = gives (record { seconds = t; frame = c }); taken = n; state = boundary }
      good_check q =
          let f : fine n c ≡ true = says_fine n c record { address = a; second = λ _. e; check = λ _ _. q } in
          let last : n - 1 + 1 ≡ n = omega arith in
          let is : take (n - 1) c ++ get_or c (n - 1) 0 ∷ [] ≡ c = upto (n - 1) (omega arith) ∙ all_of in
          reach (n - 1) (omega arith) (λ _. front_fine)
          ∙ ap (later (n - 1))
          (byte_entry t n (take (n - 1) c) (get_or c (n - 1) 0) (drop (suc (n - 1)) c ++ s)
          (ap (feed_frame t n) is ∙ feed_whole t n c f (omega arith)))
          ∙ ap (λ (k : ℕ). record { said = gives (record { seconds = t; frame = c }); taken = k; state = boundary }) last

-- ---- what the code says of it

module _ (t n : ℕ) (input : List ℕ) (i : ℕ) (low : 4 ≤ n) (high : n ≤ limit) (room : i + n ≤ length input) where
  c : List ℕ
  c = part input i n

  s : List ℕ
  s = drop n (drop i input)

  c_long : length c ≡ n
  unfolding c
  c_long = length_part input i n room

  c_at : (k : ℕ) → k < n → get_or c k 0 ≡ get_or input (i + k) 0
  unfolding c
  c_at k h = get_or-take n (drop i input) k 0 h ∙ get_or-drop i input k 0

  first_byte : get_or c 0 0 ≡ get_or input i 0
  first_byte = c_at 0 (omega arith) ∙ ap (λ (j : ℕ). get_or input j 0) (omega arith)

  the_call : call (frame t (length c) []) (c ++ s) ≡ call (frame t n []) (drop i input)
  unfolding c s
  the_call = ap₂ (λ (m : ℕ) (l : List ℕ). call (frame t m []) l) c_long (take-append-drop n (drop i input))

  c_low : 4 ≤ length c
  c_low = let e = c_long in omega arith

  c_high : length c ≤ limit
  c_high = let e = c_long in omega arith

  -- a refusal, judged at the k-th byte
  refuses_at : (k : ℕ) → call (frame t (length c) []) (c ++ s) ≡ record { said = refuses InvalidFrame; taken = k; state = refused InvalidFrame }
      → {j : ℕ} {r : Answered} → j ≡ i + k → r ≡ record { reader = Refused InvalidFrame; taken = j; answer = answer.Refused InvalidFrame } → InOne t n input i r
  unfolding said_by
  refuses_at k e {j} j-is q = rw q record {
    shown = λ p. ap (λ (x : ℕ). record { said = refuses InvalidFrame; taken = x; state = refused InvalidFrame }) j-is ∙ ap (later i) (sym e ∙ the_call);
    stands = λ p enough. stands_refused p InvalidFrame enough of_logs_10;
    placed = λ p. tt;
  }

  pub piece_unlisted : listed (get_or input i 0) ≡ false → {r : Answered}
      → r ≡ record { reader = Refused InvalidFrame; taken = i + 1; answer = answer.Refused InvalidFrame } → InOne t n input i r
  piece_unlisted a q = refuses_at 1 (bad_address t c s c_low c_high (ap listed first_byte ∙ a)) refl q

  module _ (a : listed (get_or input i 0) ≡ true) where
    c_listed : listed (get_or c 0 0) ≡ true
    c_listed = ap listed first_byte ∙ a

    pub piece_second : (get_or input (i + 1) 0 + 2 ≡ n → ⊥) → {r : Answered}
        → r ≡ record { reader = Refused InvalidFrame; taken = i + 2; answer = answer.Refused InvalidFrame } → InOne t n input i r
    piece_second e q =
        refuses_at 2 (bad_second t c s c_low c_high c_listed (λ x. e (ap (λ (y : ℕ). y + 2) (sym (c_at 1 (omega arith))) ∙ x ∙ c_long))) refl q

    module _ (e : get_or input (i + 1) 0 + 2 ≡ n) {x : Check} (q : x ≡ check_of (remainder (take (i + n - 1 - (i + 2)) (drop (i + 2) input))) (get_or input (i + n - 1) 0)) where
      c_second : get_or c 1 0 + 2 ≡ length c
      c_second = ap (λ (y : ℕ). y + 2) (c_at 1 (omega arith)) ∙ e ∙ sym c_long

      abbrev body : List ℕ
      body = take (i + n - 1 - (i + 2)) (drop (i + 2) input)

      c_covered : covered c ≡ body
      unfolding c
      c_covered =
          let k : n - 1 - 2 ≡ i + n - 1 - (i + 2) = omega arith in
          ap (λ (m : ℕ). drop 2 (take (m - 1) c)) c_long
          ∙ ap (drop 2) (take-take (n - 1) n (drop i input) (omega arith))
          ∙ drop_take 2 (n - 1) (drop i input)
          ∙ ap₂ (λ (m : ℕ) (l : List ℕ). take m l) k (drop-drop 2 i input)

      c_carried : carried c ≡ get_or input (i + n - 1) 0
      c_carried =
          let k : i + (n - 1) ≡ i + n - 1 = omega arith in
          ap (λ (m : ℕ). get_or c (m - 1) 0) c_long ∙ c_at (n - 1) (omega arith) ∙ ap (λ (m : ℕ). get_or input m 0) k

      c_passes : passes c ≡ eqb (remainder body) (get_or input (i + n - 1) 0)
      unfolding passes
      c_passes = ap₂ (λ (l : List ℕ) (y : ℕ). eqb (remainder l) y) c_covered c_carried

      pub piece_wrong : {w : Mismatch} → x ≡ Err w → {r : Answered}
          → r ≡ record { reader = Refused InvalidFrame; taken = i + n; answer = answer.Refused InvalidFrame } → InOne t n input i r
      piece_wrong w r-is =
          refuses_at (length c) (bad_check_lem t c s c_low c_high c_listed c_second (c_passes ∙ wrong_says (remainder body) (get_or input (i + n - 1) 0) (sym q ∙ w)))
          (ap (λ (m : ℕ). i + m) (sym c_long)) r-is

      pub piece_right : x ≡ Ok tt → {r : Reader} → r ≡ Number Seconds 0 0
          → InOne t n input i (record { reader = r; taken = i + n; answer = answer.Entry t (place.InPiece i n) })
      unfolding c said_by
      piece_right w r-is =
          let good = good_check t c s c_low c_high c_listed c_second (c_passes ∙ right_says (remainder body) (get_or input (i + n - 1) 0) (sym q ∙ w)) in
          rw r-is record {
            shown = λ p.
                ap (λ (m : ℕ). record { said = gives (record { seconds = t; frame = c }); taken = i + m; state = boundary }) (sym c_long)
                ∙ ap (later i) (sym good ∙ the_call);
            stands = λ p enough. stands_fresh p Seconds enough;
            placed = λ p. (refl, room);
          }

-- ---- in the loop

-- a frame that is to begin
module _ (p : List ℕ) (t n : ℕ) {at : Reader} (e : at ≡ Frame t n 0) (state : is_state p at ≡ true) where
  pub fresh_begun : Begun p n 0
  fresh_begun = begun p t n 0 (rw e at state)

  pub going_piece : {p₀ : List ℕ} {at₀ : Reader} {input : List ℕ} {i : ℕ} {r : Answered}
      → Going p₀ at₀ input p at i → InOne t n input i r → Runs p₀ at₀ input p r
  going_piece {input = input} {i} g one = record {
    shown = one.shown p ∙ ap (λ (st : Reader). later i (call (state_of p st) (drop i input))) (sym e) ∙ sym g.calls;
    stands = one.stands p (state_room p at state);
    placed = one.placed p;
    same = g.same;
  }

-- a byte of a number
pub taken_number : (m i : ℕ) (p : List ℕ) (at : Reader) (b : ℕ) {wanted : Wanted} {v g : ℕ} {r : Reader} → is_state p at ≡ true → at ≡ Number wanted v g → FedNumber wanted v g b r
    → Taken m i p at b p (turn.On r)
taken_number m i p at b s e f = record { turns = turn_number p at b s e f; goes = rw e refl; fresh = rw e tt }

-- .. and of a frame: one that is to begin, and does not stand whole in the piece, does not end in it
pub taken_frame : (m i : ℕ) (p : List ℕ) (at : Reader) (b : ℕ) {t n k : ℕ} {after : List ℕ} {r : Turn} → is_state p at ≡ true → at ≡ Frame t n k → (k ≡ 0 → m < i + n)
    → FedFrame p t n (take k p ++ b ∷ []) after r → Taken m i p at b after r
taken_frame m i p at b {t} {n} {k} s e late f =
    let h = begun p t n k (rw e at s) in
    let long : length (take k p) ≡ k = length-take-le k p (omega (arith, h.short, h.high, h.room)) in
    record { turns = turn_frame p at b s e f; goes = rw e refl; fresh = rw e (λ none. late (sym long ∙ none)) }
