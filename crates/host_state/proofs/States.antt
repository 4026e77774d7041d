-- What the tests of a state say, its four parts, and the state after these were written.
-- Assumes nothing.
use mathlib.Core.Path.{◌≡◌, refl, sym, ap, ap₂, ◌∙◌}
use mathlib.Core.Bool.{true, and-eq-true_iff}
use mathlib.Core.List.{List, ◌∷◌, ◌++◌, append-nil}
use Prim.Native.Nat.{ℕ, ◌+◌, ◌-◌, ◌^◌, ◌≤◌, ◌<◌}
use native.Mathlib.Nat.{mod-eq_of_lt}
use native.Mathlib.Omega.{arith}
use borrow.Author.Tests.{eqb-true, eq-eqb}
use lib.ListN.{length, take, drop, set, length-append, length-drop, drop_of_length-le, take-append-drop}
use lib.Seq.{take_at, drop_at, take_all, take-take, drop-drop}
use Rattle.base.specs.Parts.{part, pasted, placed}
use Rattle.base.proofs.Parts.{length_part, drop_take, placed_fits}
use Rattle.numbers.specs.BigEndian.{be_of, bytes_of}
use Rattle.numbers.proofs.BigEndian.{length_bytes_of, be_of_bytes_of}
use Rattle.reading.specs.Reading.{limit}
use Rattle.reading.specs.Positions.{greatest}
use Rattle.reading.proofs.Frame.{two_heads}
use Rattle.stream.specs.Step.{is_span}
use Rattle.stream.proofs.Spans.{span_bounds}
use Rattle.host_state.specs.State.{size, position_at, state_of, start_in, end_in, places_in, position_in, has_size, is_state}

-- ---- the tests

module _ (s : List ℕ) where
  pub sized : has_size s ≡ true → length s ≡ size
  sized e = eqb-true (length s) size e

  pub has_size_lem : length s ≡ size → has_size s ≡ true
  has_size_lem e = eq-eqb (length s) size e

  pub state_size : is_state s ≡ true → length s ≡ size
  unfolding is_state
  state_size e = sized ((and-eq-true_iff (has_size s) (is_span limit (start_in s) (end_in s))).0 e).0

  pub state_span : is_state s ≡ true → is_span limit (start_in s) (end_in s) ≡ true
  unfolding is_state
  state_span e = ((and-eq-true_iff (has_size s) (is_span limit (start_in s) (end_in s))).0 e).1

  pub is_state_lem : length s ≡ size → is_span limit (start_in s) (end_in s) ≡ true → is_state s ≡ true
  unfolding is_state
  is_state_lem fits span = simp (has_size_lem fits, span)

  pub state_bounds : is_state s ≡ true → (start_in s ≤ end_in s) × (end_in s ≤ limit)
  state_bounds e = (span_bounds limit (start_in s) (end_in s) (state_span e)).1

-- ---- the four parts of a state

-- a part of the places, as a part of the state
pub part_of_places : (s : List ℕ) (p n : ℕ) → p + n ≤ limit → part s (2 + p) n ≡ part (places_in s) p n
part_of_places s p n inside =
    ap (take n) (sym (drop-drop p 2 s)) ∙ sym (take-take n (limit - p) (drop p (drop 2 s)) (omega arith)) ∙ ap (take n) (sym (drop_take p limit (drop 2 s)))

module _ (s : List ℕ) (fits : length s ≡ size) where
  pub places_count : length (places_in s) ≡ limit
  places_count = length_part s 2 limit (omega arith)

  -- the part that the code lends on is all of the places
  pub places_lent : take (66 - 2) (drop 2 s) ≡ places_in s
  places_lent = refl

  -- what stands behind the places is the position
  behind_places : drop limit (drop 2 s) ≡ part s position_at 8
  behind_places =
      drop-drop limit 2 s ∙ sym (take_all 8 (drop 66 s) (let l = length-drop 66 s in omega arith))

  pub whole : s ≡ start_in s ∷ end_in s ∷ (places_in s ++ part s position_at 8)
  whole =
      two_heads s (omega arith)
      ∙ ap (λ (l : List ℕ). start_in s ∷ end_in s ∷ l) (sym (take-append-drop limit (drop 2 s)) ∙ ap (λ (l : List ℕ). places_in s ++ l) behind_places)

-- of a state that was put together
module _ (a b : ℕ) (ys : List ℕ) (full : length ys ≡ limit) where
  pub places_of : (bytes : List ℕ) → places_in (a ∷ b ∷ (ys ++ bytes)) ≡ ys
  places_of bytes = take_at ys bytes limit full

  pub position_bytes_of : (bytes : List ℕ) → length bytes ≡ 8 → part (a ∷ b ∷ (ys ++ bytes)) position_at 8 ≡ bytes
  position_bytes_of bytes eight =
      ap (take 8) (sym (drop-drop limit 2 (a ∷ b ∷ (ys ++ bytes))) ∙ drop_at ys bytes limit full) ∙ take_all 8 bytes (omega arith)

  pub position_of_lem : (p : ℕ) → p ≤ greatest → position_in (state_of a b ys p) ≡ p
  position_of_lem p small =
      ap be_of (position_bytes_of (bytes_of 8 p) (length_bytes_of 8 p)) ∙ be_of_bytes_of 8 p ∙ mod-eq_of_lt (let z : p < 256 ^ 8 = omega arith in z)

  pub size_of : (bytes : List ℕ) → length bytes ≡ 8 → length (a ∷ b ∷ (ys ++ bytes)) ≡ size
  size_of bytes eight = omega (arith, length-append ys bytes)

  -- the position is written over
  pub moved_of : (bytes : List ℕ) → length bytes ≡ 8 → (p : ℕ) → placed (a ∷ b ∷ (ys ++ bytes)) position_at (bytes_of 8 p) ≡ state_of a b ys p
  unfolding pasted
  moved_of bytes eight p =
      let s : List ℕ = a ∷ b ∷ (ys ++ bytes) in
      let long = size_of bytes eight in
      let eight-more = length_bytes_of 8 p in
      let past : length s ≤ position_at + length (bytes_of 8 p) = omega (arith, long, eight-more) in
      placed_fits s position_at (bytes_of 8 p) (omega (arith, long, eight-more))
      ∙ ap₂ (λ (x y : List ℕ). (a ∷ b ∷ x) ++ bytes_of 8 p ++ y) (take_at ys bytes limit full) (drop_of_length-le s past)
      ∙ ap (λ (l : List ℕ). a ∷ b ∷ l) (append-nil (ys ++ bytes_of 8 p))

-- ---- what the code writes

module _ (s : List ℕ) (fits : length s ≡ size) (ys : List ℕ) (full : length ys ≡ limit) where
  -- the state after its places were lent to be written
  abbrev pub written : List ℕ
  written = take 2 s ++ (ys ++ drop (66 - 2) (drop 2 s))

  written_is : written ≡ start_in s ∷ end_in s ∷ (ys ++ part s position_at 8)
  written_is =
      ap (λ (l : List ℕ). take 2 s ++ (ys ++ l)) (behind_places s fits)
      ∙ ap (λ (l : List ℕ). take 2 l ++ (ys ++ part s position_at 8)) (whole s fits)

  eight : length (part s position_at 8) ≡ 8
  eight = length_part s position_at 8 (omega arith)

  pub written_size_lem : length written ≡ size
  written_size_lem = ap length written_is ∙ size_of (start_in s) (end_in s) ys full (part s position_at 8) eight

  -- the code's two stores
  pub stores_written : (a b : ℕ) → set (set written 0 a) 1 b ≡ a ∷ b ∷ (ys ++ part s position_at 8)
  stores_written a b = ap (λ (l : List ℕ). set (set l 0 a) 1 b) written_is

  -- and a store of the position
  pub all_written : (a b p : ℕ) → placed (set (set written 0 a) 1 b) position_at (bytes_of 8 p) ≡ state_of a b ys p
  all_written a b p =
      ap (λ (l : List ℕ). placed l position_at (bytes_of 8 p)) (stores_written a b) ∙ moved_of a b ys full (part s position_at 8) eight p

  -- nothing was written
  pub written_same : ys ≡ places_in s → written ≡ s
  written_same e = written_is ∙ ap (λ (l : List ℕ). start_in s ∷ end_in s ∷ (l ++ part s position_at 8)) e ∙ sym (whole s fits)

-- stores into the state as it stands
module _ (s : List ℕ) (fits : length s ≡ size) where
  pub state_written : (a b p : ℕ) → placed (set (set s 0 a) 1 b) position_at (bytes_of 8 p) ≡ state_of a b (places_in s) p
  state_written a b p =
      ap (λ (l : List ℕ). placed (set (set l 0 a) 1 b) position_at (bytes_of 8 p)) (sym (written_same s fits (places_in s) (places_count s fits) refl))
      ∙ all_written s fits (places_in s) (places_count s fits) a b p
