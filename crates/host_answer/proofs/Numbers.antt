-- An answer that refuses says the number of the one definition, and the low bytes of what that carries.
-- Assumes nothing.
use mathlib.Core.Path.{◌≡◌, ap}
use mathlib.Core.List.{List, [], ◌∷◌}
use Prim.Native.Nat.{ℕ, ◌%◌, ◌<◌}
use native.Mathlib.Nat.{mod-lt}
use native.Mathlib.Omega.{arith}
use lib.Dec.{lit<}
use lib.ListN.{get_or}
use Rattle.refusals.specs.Row.{row_of, number_of}
use Rattle.refusals.specs.declared.Refusal.{Refusal}
use Rattle.refusals.proofs.Rows.{number_bounds}
use Rattle.host_answer.specs.Answer.{packed, answer_carried, answer_row, answers}
use Rattle.host_answer.specs.Seen.{unpacked}
use Rattle.host_answer.proofs.Rows.{row_refusal}
use Rattle.host_answer.proofs.Packing.{Whole, unpack}

pub refusal_whole : (t : ℕ) (r : Refusal) → t < 256 → Whole (answer_carried t (row_of r))
refusal_whole t r few = record {
  number = omega (arith, number_bounds r);
  taken = few;
  in_state = lit< tt;
  at = lit< tt;
  len = lit< tt;
  first = mod-lt (get_or (row_of r) 1 0) (lit< tt);
  second = mod-lt (get_or (row_of r) 2 0) (lit< tt);
}

-- the eight bytes of a refusal, after that many bytes were taken
abbrev pub refusal_bytes : ℕ → Refusal → List ℕ
refusal_bytes t r = number_of r ∷ t ∷ 0 ∷ 0 ∷ 0 ∷ get_or (row_of r) 1 0 % 256 ∷ get_or (row_of r) 2 0 % 256 ∷ 0 ∷ []

pub refusal_bytes_lem : (t : ℕ) (r : Refusal) → t < 256 → unpacked 8 (packed (answer_carried t (row_of r))) ≡ refusal_bytes t r
refusal_bytes_lem t r few = unpack (answer_carried t (row_of r)) (refusal_whole t r few)

-- every entry that answers by a row
pub row_bytes : {n : ℕ} {row : List ℕ} (r : Refusal) → n ≡ packed (answer_row row) → row ≡ row_of r → unpacked 8 n ≡ refusal_bytes 0 r
row_bytes r e is = rw (e, is, row_refusal r) (refusal_bytes_lem 0 r (lit< tt))

pub entry_refuses : {A : Type 0} {n : ℕ} {after : A} {x : List ℕ × A} (r : Refusal) → (n, after) ≡ answers x → x.0 ≡ row_of r → unpacked 8 n ≡ refusal_bytes 0 r
entry_refuses {A} r e is = row_bytes r (ap (λ (y : ℕ × A). y.0) e) is
