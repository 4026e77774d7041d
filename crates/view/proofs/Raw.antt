-- A raw view shows every byte but the length byte: four bytes or more are address, length, type, payload and check byte. Assumes nothing.
use mathlib.Core.Path.{◌≡◌, refl, sym, ap, ap₂, ◌∙◌}
use mathlib.Core.List.{List, [], ◌∷◌, ◌++◌}
use Prim.Native.Nat.{ℕ, suc, ◌+◌, ◌-◌, ◌≤◌}
use native.Mathlib.Omega.{arith}
use borrow.Author.Tests.{le-ltb}
use lib.ListN.{length, get_or, take, drop, length-drop}
use lib.Seq.{take-suc, take-length, get_or-drop}
use Rattle.view.specs.View.{payload_of}

heads : (s : List ℕ) → 3 ≤ length s → s ≡ get_or s 0 0 ∷ get_or s 1 0 ∷ get_or s 2 0 ∷ drop 3 s
heads [] h = absurd (omega arith)
heads (a ∷ []) h = absurd (omega arith)
heads (a ∷ b ∷ []) h = absurd (omega arith)
heads (a ∷ b ∷ c ∷ s) h = refl

module _ (s : List ℕ) (four : 4 ≤ length s) where
  payload_is : payload_of s ≡ take (length s - 4) (drop 3 s)
  unfolding payload_of
  payload_is = rw (le-ltb (length s) 4 four)

  -- what stands behind the type is the payload and the check byte
  behind : drop 3 s ≡ payload_of s ++ get_or s (length s - 1) 0 ∷ []
  behind =
      let size = length-drop 3 s in
      let whole : length (drop 3 s) ≡ suc (length s - 4) = omega arith in
      let last : 3 + (length s - 4) ≡ length s - 1 = omega arith in
      sym (take-length (drop 3 s))
      ∙ ap (λ (k : ℕ). take k (drop 3 s)) whole
      ∙ take-suc (drop 3 s) (length s - 4) 0 (omega arith)
      ∙ ap₂ (λ (p : List ℕ) (b : ℕ). p ++ b ∷ []) (sym payload_is) (get_or-drop 3 s (length s - 4) 0 ∙ ap (λ (k : ℕ). get_or s k 0) last)

  pub shown_whole : s ≡ get_or s 0 0 ∷ get_or s 1 0 ∷ get_or s 2 0 ∷ payload_of s ++ get_or s (length s - 1) 0 ∷ []
  shown_whole = heads s (omega arith) ∙ ap (λ (r : List ℕ). get_or s 0 0 ∷ get_or s 1 0 ∷ get_or s 2 0 ∷ r) behind
