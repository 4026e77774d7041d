-- Laws of the older form, of the held bytes alone: it is accepted exactly if it is the form of some bytes, fewer than the limit.
-- Assumes nothing.
use mathlib.Core.Path.{◌≡◌, refl, sym, ap}
use mathlib.Core.Bool.{true, false, ◌&&◌}
use mathlib.Core.List.{List, [], ◌∷◌, ◌++◌}
use Prim.Native.Nat.{ℕ, ◌+◌, ◌*◌, ◌-◌, ◌≤◌, ◌<◌}
use native.Mathlib.Omega.{arith}
use borrow.Author.Tests.{lt-ltb, le-ltb, le-leb, eq-eqb}
use lib.Dec.{leb, ltb, eqb}
use lib.ListN.{length, get_or}
use Rattle.base.specs.Bytes.{Bytes}
use Rattle.base.proofs.Tests.{by_test}
use Rattle.groups.specs.declared.Step.{Step}
use Rattle.groups.specs.Reading.{step, ends, run, read}
use Rattle.groups.proofs.Groups.{one_group}
use Rattle.groups.proofs.Reading.{Case, on, many, zero_last, large, last, cases, run_done, run_bad, written_reads, read_written}
use Rattle.saved.specs.Form.{held_form, is_counted, is_held_form, behind_number, held_bytes}
use Rattle.saved.proofs.Forms.{accepted}

module _ (m : ℕ) (held : List ℕ) (few : length held < m) where
  reads_count : read (m - 1) (held_form held) ≡ ends (length held) held
  unfolding held_form
  reads_count = written_reads (m - 1) (length held) held (omega arith)

  -- the form of fewer bytes than the limit is accepted, and its held bytes are these
  pub older_accepted : is_held_form m (held_form held) ≡ true
  unfolding is_held_form is_counted
  older_accepted = simp (le-leb 1 m (omega arith), reads_count, eq-eqb (length held) (length held) refl)

  pub bytes_again : held_bytes m (held_form held) ≡ held
  unfolding behind_number
  bytes_again = ap behind_number reads_count

-- one that is accepted is the form of its held bytes
pub older_again : (m : ℕ) (form : List ℕ) → Bytes form → is_held_form m form ≡ true → held_form (held_bytes m form) ≡ form
unfolding held_form
older_again m form all good =
    sym (read_written (m - 1) form (length (held_bytes m form)) (held_bytes m form) all (accepted m form good).counted).0

-- up to the limit 128 the count takes up one byte: at 64 the forms are those of 0 to 63 bytes, and no others
module _ (m b : ℕ) (rest : List ℕ) (some : 1 ≤ m) (one : m ≤ 128) where
  by_case : {x : Step} → Case (m - 1) 0 1 b x → step (m - 1) 0 1 b ≡ x → is_held_form m (b ∷ rest) ≡ (ltb b m && eqb (length rest) b)
  unfolding is_held_form is_counted
  by_case (on high room) e = absurd (omega arith)
  by_case (many high none) e = simp (le-leb 1 m some, run_bad (m - 1) 0 1 b rest e, le-ltb b m (omega arith))
  by_case (zero_last low after z) e = absurd (omega arith)
  by_case (large low form much) e = simp (le-leb 1 m some, run_bad (m - 1) 0 1 b rest e, le-ltb b m (omega arith))
  by_case (last low form small) e =
      let unit : 0 + b * 1 ≡ b = omega arith in
      simp (le-leb 1 m some, run_done (m - 1) 0 1 b rest e, lt-ltb b m (omega arith)) (ap (eqb (length rest)) unit)

  pub one_byte : is_held_form m (b ∷ rest) ≡ (ltb b m && eqb (length rest) b)
  one_byte = by_case (cases (m - 1) 0 1 b) refl

-- the empty string is none
pub not_empty : (m : ℕ) → is_held_form m [] ≡ false
unfolding is_held_form is_counted run
not_empty m = by_test (leb 1 m) (λ t. simp t) (λ t. simp t)

-- the form of fewer than 128 bytes begins with their count
pub begins_with : (held : List ℕ) → length held < 128 → get_or (held_form held) 0 0 ≡ length held
unfolding held_form
begins_with held few = ap (λ (l : List ℕ). get_or (l ++ held) 0 0) (one_group (length held) few)
