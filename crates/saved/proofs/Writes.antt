-- A run of bytes pasted at the front and a copy right behind it are one run.
-- Assumes nothing.
use mathlib.Core.Path.{◌≡◌, sym, ap, ◌∙◌}
use mathlib.Core.List.{List, ◌++◌}
use Prim.Native.Nat.{ℕ, ◌+◌, ◌≤◌}
use native.Mathlib.Nat.{zero-add}
use native.Mathlib.Omega.{arith}
use lib.ListN.{length}
use Rattle.base.specs.Parts.{pasted, copied}
use Rattle.base.proofs.Parts.{length_pasted, pasted_append, paste_all, copied_fits}

module _ (d xs ys : List ℕ) (k n : ℕ) (first : k ≡ length xs) (second : n ≡ length ys) (room : k + n ≤ length d) where
  pub run_and_copy : {mid after : List ℕ} → mid ≡ pasted d 0 xs → after ≡ copied mid k ys n → after ≡ pasted d 0 (xs ++ ys)
  run_and_copy {mid} {after} e copies =
      let long : length mid ≡ length d = ap length e ∙ length_pasted d 0 xs (omega arith) in
      copies
      ∙ copied_fits mid k ys n (omega arith) (omega arith)
      ∙ paste_all mid k ys n second
      ∙ ap (λ (l : List ℕ). pasted l k ys) e
      ∙ ap (λ (j : ℕ). pasted (pasted d 0 xs) j ys) (sym (zero-add k))
      ∙ pasted_append d 0 k xs ys (sym first) (omega arith)
