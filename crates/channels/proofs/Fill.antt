-- A loop that copies a list s from `at` on over the same places of a list d, one element a turn.
-- Assumes nothing.
use mathlib.Core.Path.{◌≡◌, sym, ap, ap₂, ◌∙◌}
use mathlib.Core.List.{List, [], ◌∷◌, ◌++◌, append_assoc}
use Prim.Native.Nat.{ℕ, ◌+◌, ◌≤◌, ◌<◌}
use native.Mathlib.Nat.{zero-add}
use native.Mathlib.Omega.{arith}
use lib.ListN.{length, get_or, set, take, drop}
use lib.Seq.{take-add, take_all, drop-drop}
use borrow.Rule.Slice.PartMut.{put_mid}
use Rattle.base.specs.Parts.{part, pasted}
use Rattle.base.proofs.Parts.{length_part, part_snoc, pasted_nil, set_pasted, pasted_append, pasted_front, length_pasted}

-- d with i elements of s
abbrev pub filling : List ℕ → List ℕ → ℕ → ℕ → List ℕ
filling s d at i = pasted d at (part s at i)

-- one element behind those that are pasted
pub pasted_snoc : (d : List ℕ) (at n : ℕ) (l : List ℕ) (v : ℕ) → length l ≡ n → at + n < length d → set (pasted d at l) (at + n) v ≡ pasted d at (l ++ (v ∷ []))
pasted_snoc d at n l v e h =
    set_pasted (pasted d at l) (at + n) v (rw (length_pasted d at l (omega arith)) h)
    ∙ pasted_append d at n l (v ∷ []) e (omega arith)

module _ (s d : List ℕ) (at : ℕ) where
  pub fill_start : d ≡ filling s d at 0
  fill_start = sym (pasted_nil d at)

  pub fill_next : (i : ℕ) → at + i < length s → at + i < length d → set (filling s d at i) (at + i) (get_or s (at + i) 0) ≡ filling s d at (i + 1)
  fill_next i hs hd =
      pasted_snoc d at i (part s at i) (get_or s (at + i) 0) (length_part s at i (omega arith)) hd
      ∙ ap (pasted d at) (sym (part_snoc s at i hs))

-- the same from the front
pub fill_front : (s d : List ℕ) (i : ℕ) → i < length s → i < length d → set (filling s d 0 i) i (get_or s i 0) ≡ filling s d 0 (i + 1)
fill_front s d i hs hd = rw zero-add at (fill_next s d 0 i (omega arith) (omega arith))

-- one part behind another is the part that they make up
pub two_parts : (s d : List ℕ) (at a b : ℕ) → at + a + b ≤ length s → at + a ≤ length d
    → pasted (pasted d at (part s at a)) (at + a) (part s (at + a) b) ≡ pasted d at (part s at (a + b))
two_parts s d at a b hs hd =
    pasted_append d at a (part s at a) (part s (at + a) b) (length_part s at a (omega arith)) hd
    ∙ ap (λ (l : List ℕ). pasted d at (part s at a ++ take b l)) (sym (drop-drop a at s))
    ∙ ap (pasted d at) (sym (take-add a b (drop at s)))

-- the elements from a on, as many as there are new ones, are replaced by these
mid_pasted : (a k : ℕ) (xs ys : List ℕ) → length ys ≡ k → put_mid a k xs ys ≡ pasted xs a ys
unfolding pasted
mid_pasted a k xs ys e =
    rw (← e)
    (ap (λ (l : List ℕ). take a xs ++ (ys ++ l)) (drop-drop (length ys) a xs) ∙ sym (append_assoc (take a xs) ys (drop (a + length ys) xs)))

-- six bytes, eight and eight make up the 22
pub six_eight_eight : (s d : List ℕ) → length s ≡ 22 → 22 ≤ length d → {x y z : List ℕ} → x ≡ part s 0 6 → y ≡ part s 6 8 → z ≡ part s 14 8
    → put_mid 14 8 (put_mid 6 8 (x ++ drop 6 d) y) z ≡ pasted d 0 s
six_eight_eight s d long room {x} {y} {z} e f g =
    let first : length x ≡ 6 = rw e (length_part s 0 6 (omega arith)) in
    let second : length y ≡ 8 = rw f (length_part s 6 8 (omega arith)) in
    let third : length z ≡ 8 = rw g (length_part s 14 8 (omega arith)) in
    let start : x ++ drop 6 d ≡ pasted d 0 (part s 0 6) =
    ap (λ (n : ℕ). x ++ drop n d) (sym first) ∙ sym (pasted_front d x) ∙ ap (pasted d 0) e in
    mid_pasted 14 8 _ z third
    ∙ ap₂ (λ (l w : List ℕ). pasted l 14 w) (mid_pasted 6 8 _ y second ∙ ap₂ (λ (l w : List ℕ). pasted l 6 w) start f) g
    ∙ ap (λ (l : List ℕ). pasted l 14 (part s 14 8)) (two_parts s d 0 6 8 (omega arith) (omega arith))
    ∙ two_parts s d 0 14 8 (omega arith) (omega arith)
    ∙ ap (pasted d 0) (take_all 22 s (omega arith))
