-- The head of a state: five fields written one after the other are its bytes, and what is read of these is what was written.
-- Assumes nothing.
use mathlib.Core.Path.{◌≡◌, refl, ap, ap₂, ◌∙◌}
use mathlib.Core.List.{List, [], ◌∷◌, ◌++◌}
use Prim.Native.Nat.{ℕ, ◌≤◌, ◌<◌}
use native.Mathlib.Nat.{mod-eq_of_lt}
use native.Mathlib.Omega.{arith}
use lib.ListN.{length, drop, set}
use Rattle.base.specs.Parts.{placed, pasted}
use Rattle.base.proofs.Parts.{placed_fits}
use Rattle.numbers.specs.BigEndian as be
use Rattle.numbers.specs.BigEndian.{be_of}
use Rattle.numbers.proofs.BigEndian.{be_of_bytes_of}
use Rattle.host_log.specs.declared.head.Head.{Head}
use Rattle.host_log.specs.State.{places_at, bytes_of, head_in}

-- ---- a list of eleven and more

data Eleven : List ℕ → Type 0 where
  eleven : (a b c d e f g h i j k : ℕ) (rest : List ℕ) → Eleven (a ∷ b ∷ c ∷ d ∷ e ∷ f ∷ g ∷ h ∷ i ∷ j ∷ k ∷ rest)

first_eleven : (s : List ℕ) → 11 ≤ length s → Eleven s
first_eleven [] l = absurd (omega arith)
first_eleven (a ∷ []) l = absurd (omega arith)
first_eleven (a ∷ b ∷ []) l = absurd (omega arith)
first_eleven (a ∷ b ∷ c ∷ []) l = absurd (omega arith)
first_eleven (a ∷ b ∷ c ∷ d ∷ []) l = absurd (omega arith)
first_eleven (a ∷ b ∷ c ∷ d ∷ e ∷ []) l = absurd (omega arith)
first_eleven (a ∷ b ∷ c ∷ d ∷ e ∷ f ∷ []) l = absurd (omega arith)
first_eleven (a ∷ b ∷ c ∷ d ∷ e ∷ f ∷ g ∷ []) l = absurd (omega arith)
first_eleven (a ∷ b ∷ c ∷ d ∷ e ∷ f ∷ g ∷ h ∷ []) l = absurd (omega arith)
first_eleven (a ∷ b ∷ c ∷ d ∷ e ∷ f ∷ g ∷ h ∷ i ∷ []) l = absurd (omega arith)
first_eleven (a ∷ b ∷ c ∷ d ∷ e ∷ f ∷ g ∷ h ∷ i ∷ j ∷ []) l = absurd (omega arith)
first_eleven (a ∷ b ∷ c ∷ d ∷ e ∷ f ∷ g ∷ h ∷ i ∷ j ∷ k ∷ rest) l = eleven a b c d e f g h i j k rest

-- ---- written

pub head_put : (s : List ℕ) (h : Head) → places_at ≤ length s
    → placed (placed (set (set (set s 0 h.stage) 1 h.count) 2 h.size) 3 (be.bytes_of 4 h.value)) 7 (be.bytes_of 4 h.seconds) ≡ bytes_of h ++ drop places_at s
unfolding pasted bytes_of be.bytes_of
head_put s h l = by s (first_eleven s l)
  where
    by : (s : List ℕ) → Eleven s
        → placed (placed (set (set (set s 0 h.stage) 1 h.count) 2 h.size) 3 (be.bytes_of 4 h.value)) 7 (be.bytes_of 4 h.seconds) ≡ bytes_of h ++ drop places_at s
    by s (eleven a b c d e f g u i j k rest) =
        let v = be.bytes_of 4 h.value in
        let t = be.bytes_of 4 h.seconds in
        ap (λ (x : List ℕ). placed x 7 t) (placed_fits (h.stage ∷ h.count ∷ h.size ∷ d ∷ e ∷ f ∷ g ∷ u ∷ i ∷ j ∷ k ∷ rest) 3 v (omega arith))
        ∙ placed_fits (h.stage ∷ h.count ∷ h.size ∷ v ++ (u ∷ i ∷ j ∷ k ∷ rest)) 7 t (omega arith)

pub length_head : (h : Head) → length (bytes_of h) ≡ places_at
unfolding bytes_of be.bytes_of
length_head h = refl

-- ---- and read back

pub head_read : (h : Head) (p : List ℕ) → h.value < 4294967296 → h.seconds < 4294967296 → head_in (bytes_of h ++ p) ≡ h
unfolding bytes_of head_in be.bytes_of
head_read h p few short =
    ap₂ (λ (v t : ℕ). record { stage = h.stage; count = h.count; size = h.size; value = v; seconds = t })
    (be_of_bytes_of 4 h.value ∙ mod-eq_of_lt few) (be_of_bytes_of 4 h.seconds ∙ mod-eq_of_lt short)
