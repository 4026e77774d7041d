-- Frames in a log: what begins a valid frame of its length, and what does not.
-- Assumes nothing.
use mathlib.Core.Path.{◌≡◌, refl, sym, ap, ap₂, ◌∙◌}
use mathlib.Core.Logic.{⊎_elim}
use mathlib.Core.Bool.{Bool, true, false, not}
use mathlib.Core.List.{List, [], ◌∷◌, ◌++◌, append_assoc, append-nil}
use Prim.Native.Nat.{ℕ, suc, ◌+◌, ◌-◌, ◌≤◌, ◌<◌}
use native.Mathlib.Omega.{arith}
use borrow.Author.Tests.{ltb-true, ltb-false, eqb-true, eq-eqb}
use lib.Dec.{ltb, eqb}
use lib.ListN.{length, get_or, replicate, length-append, length-replicate, get_or-append}
use Rattle.base.specs.Choice.{when◌then◌else◌}
use Rattle.base.proofs.Tests.{by_test, below}
use Rattle.packets.specs.Listed.{listed}
use Rattle.crc.specs.Remainder.{remainder}
use Rattle.reading.specs.Answer.{calculated, carried}
use Rattle.reading.specs.Reading.{limit, passes}
use Rattle.reading.specs.Frame.{frame, Valid}
use Rattle.reading.proofs.Tests.{good_length_lem, right_check}
use Rattle.reading.proofs.Frame.{frame_valid, Shape, valid_shape, shape_valid}
use Rattle.kit_log.specs.Reading.{fine}
use Rattle.kit_log.specs.Strings.{Begins}

-- a valid frame's check byte, as a test
pub shape_passes : {c : List ℕ} → Shape limit c → passes c ≡ true
shape_passes {c} w = right_check c w.check

passes_check : (c : List ℕ) → passes c ≡ true → calculated c ≡ carried c
unfolding passes
passes_check c e = eqb-true _ _ e

-- ---- what `fine` says

pub record Fine (n : ℕ) (h : List ℕ) : Type 0 where
  pub address : listed (get_or h 0 0) ≡ true
  pub second : 2 ≤ length h → get_or h 1 0 + 2 ≡ n
  pub check : 2 ≤ length h → n ≤ length h → passes h ≡ true

says_by : (n : ℕ) (h : List ℕ) (b₁ b₂ b₃ b₄ b₅ : Bool)
    → listed (get_or h 0 0) ≡ b₁ → ltb (length h) 2 ≡ b₂ → eqb (get_or h 1 0 + 2) n ≡ b₃ → ltb (length h) n ≡ b₄ → passes h ≡ b₅
    → (when not b₁ then false else when b₂ then true else when not b₃ then false else when b₄ then true else b₅) ≡ true
    → Fine n h
says_by n h false b₂ b₃ b₄ b₅ e₁ e₂ e₃ e₄ e₅ q = absurd (let z : ◌≡◌ {A = ℕ} 0 1 = cc in omega arith)
says_by n h true true b₃ b₄ b₅ e₁ e₂ e₃ e₄ e₅ q =
    let short : length h < 2 = ltb-true (length h) 2 e₂ in
    record { address = e₁; second = λ (k : 2 ≤ length h). absurd (omega arith); check = λ (k : 2 ≤ length h) _. absurd (omega arith) }
says_by n h true false false b₄ b₅ e₁ e₂ e₃ e₄ e₅ q = absurd (let z : ◌≡◌ {A = ℕ} 0 1 = cc in omega arith)
says_by n h true false true true b₅ e₁ e₂ e₃ e₄ e₅ q =
    let short : length h < n = ltb-true (length h) n e₄ in
    record { address = e₁; second = λ _. eqb-true _ _ e₃; check = λ _ (k : n ≤ length h). absurd (omega arith) }
says_by n h true false true false b₅ e₁ e₂ e₃ e₄ e₅ q = record { address = e₁; second = λ _. eqb-true _ _ e₃; check = λ _ _. e₅ ∙ q }

pub fine_says : (n : ℕ) (h : List ℕ) → fine n h ≡ true → Fine n h
unfolding fine
fine_says n h q = says_by n h _ _ _ _ _ refl refl refl refl refl q

pub says_fine : (n : ℕ) (h : List ℕ) → Fine n h → fine n h ≡ true
unfolding fine
says_fine n h f =
    by_test (ltb (length h) 2) (λ t. simp (f.address, t))
    (λ t.
    let two = ltb-false _ _ t in
    by_test (ltb (length h) n) (λ u. simp (f.address, t, eq-eqb _ _ (f.second two), u))
    (λ u. simp (f.address, t, eq-eqb _ _ (f.second two), u, f.check two (ltb-false _ _ u))))

-- ---- `fine` is what begins a valid frame of n bytes

pub begins_fine : (n : ℕ) (h : List ℕ) → 1 ≤ length h → Begins n h → fine n h ≡ true
begins_fine n h some b =
    let c = h ++ b.rest in
    let w = valid_shape limit c b.valid in
    let n_is = b.long in
    let size = length-append h b.rest in
    says_fine n h record {
      address = ap listed (sym (get_or-append h b.rest 0 0 (omega arith))) ∙ w.address;
      second = λ two. ap (λ (x : ℕ). x + 2) (sym (get_or-append h b.rest 0 1 (omega arith))) ∙ w.size ∙ n_is;
      check = λ two (all : n ≤ length h). ap passes (sym (append-nil h) ∙ ap (λ (r : List ℕ). h ++ r) (sym (none b.rest (omega arith)))) ∙ shape_passes w;
    }
  where
    none : (r : List ℕ) → length r ≤ 0 → r ≡ []
    none [] k = refl
    none (x ∷ r) k = absurd (omega arith)

-- the bytes that pad h to all of a frame of n but its check byte
zeros : ℕ → List ℕ → List ℕ
zeros n h = replicate (n - 3 - length h) 0

module _ (n a : ℕ) (h : List ℕ) (is : listed a ≡ true) (low : 4 ≤ n) (high : n ≤ limit) (room : length h + 3 ≤ n) where
  padded_length : length (h ++ zeros n h) ≡ n - 3
  unfolding zeros
  padded_length = length-append h (zeros n h) ∙ omega (arith, length-replicate {A = ℕ} (n - 3 - length h) 0)

  padded_valid : Valid limit (frame a (h ++ zeros n h))
  padded_valid =
      let k = padded_length in
      frame_valid a (h ++ zeros n h) limit is (good_length_lem limit (length (h ++ zeros n h) + 1) (omega arith) (omega arith))

  padded_whole : length (frame a (h ++ zeros n h)) ≡ n
  unfolding frame
  padded_whole =
      let body = h ++ zeros n h in
      let k = padded_length in
      omega (arith, length-append body (remainder body ∷ []))

  -- .. as h with something behind it
  padded_is : (l : ℕ) → l + 2 ≡ n → (a ∷ l ∷ h) ++ (zeros n h ++ remainder (h ++ zeros n h) ∷ []) ≡ frame a (h ++ zeros n h)
  unfolding frame
  padded_is l e =
      let k = padded_length in
      let body = h ++ zeros n h in
      let l_is : l ≡ length body + 1 = omega arith in
      ap₂ (λ (x : ℕ) (r : List ℕ). a ∷ x ∷ r) l_is (sym (append_assoc h (zeros n h) (remainder body ∷ [])))

pub fine_begins : (n : ℕ) (h : List ℕ) → 4 ≤ n → n ≤ limit → 1 ≤ length h → length h ≤ n → fine n h ≡ true → Begins n h
fine_begins n h low high some fits e = by h (fine_says n h e) some fits
  where
    by : (h : List ℕ) → Fine n h → 1 ≤ length h → length h ≤ n → Begins n h
    by [] f some fits = absurd (omega arith)
    by (a ∷ []) f some fits =
        let l = n - 2 in
        let is = padded_is n a [] f.address low high (omega arith) l (omega arith) in
        record {
          rest = l ∷ zeros n [] ++ remainder ([] ++ zeros n []) ∷ [];
          valid = rw is (padded_valid n a [] f.address low high (omega arith));
          long = ap length is ∙ padded_whole n a [] f.address low high (omega arith);
        }
    by (a ∷ l ∷ h) f some fits =
        ⊎_elim
        (λ (short : suc (suc (length h)) < n).
        let is = padded_is n a h f.address low high (omega arith) l (f.second (omega arith)) in
        record {
          rest = zeros n h ++ remainder (h ++ zeros n h) ∷ [];
          valid = rw is (padded_valid n a h f.address low high (omega arith));
          long = ap length is ∙ padded_whole n a h f.address low high (omega arith);
        })
        (λ (full : n ≤ suc (suc (length h))).
        let c = a ∷ l ∷ h in
        let two : 2 ≤ length c = omega arith in
        let n_is : n ≡ length c = omega arith in
        record {
          rest = [];
          valid = rw append-nil (shape_valid limit c record { address = f.address; size = f.second two ∙ n_is; check = passes_check c (f.check two full); four = omega arith; most = omega arith });
          long = ap length (append-nil c) ∙ sym n_is;
        })
        (below (suc (suc (length h))) n)
