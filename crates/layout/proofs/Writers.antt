-- A writer that calls for one field after the other keeps the promise of every writer, over the layout.
-- Assumes nothing.
use Rattle.std.specs.Prelude.{Ok, Err}
use Prim.Native.Nat.{ℕ, zero, suc, ◌+◌, ◌≤◌, ◌<◌}
use mathlib.Core.Bool.{Bool, true, false}
use mathlib.Core.Path.{◌≡◌, refl, ap, sym, ◌∙◌}
use mathlib.Core.List.{List, [], ◌∷◌, ◌++◌, append_assoc}
use native.Mathlib.Nat.{zero-add}
use native.Mathlib.Omega.{arith}
use lib.IntN.{ℤ, pos}
use lib.ListN.{length, take, drop, length-append, length-take}
use lib.Signed.{mag}
use mir.Val.{SFits}
use mir.ValLaws.{to_z-of_z}
use Rattle.base.specs.Parts.{pasted, placed}
use Rattle.base.proofs.Parts.{length_pasted, pasted_nil, pasted_append, placed_fits}
use Rattle.numbers.specs.BigEndian.{bytes_of}
use Rattle.numbers.specs.TwosComplement.{twos_of}
use Rattle.numbers.proofs.TwosComplement.{bytes_of_natural}
use Rattle.layout.specs.Layout.{Field, size_of, bytes_for, record_bytes}
use Rattle.refusals.specs.declared.Refusal.TheVariants.{BufferOverflow}
use Rattle.writing.specs.Writing.{bytes, written_row, write_of}
use Rattle.layout.specs.Packet.{most_payload, Small}
use Rattle.layout.proofs.Fields.{length_bytes_for, length_record_bytes}
use Rattle.writing.proofs.Writing.{writes, overflows}
use Rattle.layout.proofs.Carried.{machine, carry}

-- what the types of a struct's fields say of its numbers
abbrev TypedBy : Bool → ℕ → ℤ → Type 0
TypedBy true w z = SFits (machine w) z
TypedBy false w z = z ≡ pos (mag z)

abbrev pub Typed : List Field → List ℤ → Type 0
Typed [] vs = Unit {0}
Typed (f ∷ fs) [] = Unit {0}
Typed (f ∷ fs) (v ∷ vs) = TypedBy f.sign f.width v × Typed fs vs

-- the bytes that a call writes for a field
abbrev put_bytes : Bool → ℕ → ℤ → List ℕ
put_bytes true w z = bytes_of w (twos_of w (carry w z))
put_bytes false w z = bytes_of w (mag z)

-- what a call for each field leaves of d
unfoldable pub put_from : List Field → List ℤ → ℕ → List ℕ → List ℕ
put_from [] vs at d = d
put_from (f ∷ fs) [] at d = d
put_from (f ∷ fs) (v ∷ vs) at d = put_from fs vs (at + f.width) (placed d at (put_bytes f.sign f.width v))

put_bytes_lem : (s : Bool) (w : ℕ) (z : ℤ) → TypedBy s w z → put_bytes s w z ≡ bytes_of w (twos_of w z)
put_bytes_lem true w z h = ap (λ (y : ℤ). bytes_of w (twos_of w y)) (to_z-of_z (machine w) z h)
put_bytes_lem false w z h = sym (bytes_of_natural w (mag z)) ∙ ap (λ (y : ℤ). bytes_of w (twos_of w y)) (sym h)

put_each :
    (fs : List Field) (vs : List ℤ) (at : ℕ) (d : List ℕ)
    → at + size_of fs ≤ length d → Typed fs vs → put_from fs vs at d ≡ pasted d at (record_bytes fs vs)
unfolding put_from
put_each [] vs at d room h = sym (pasted_nil d at)
put_each (f ∷ fs) [] at d room h = sym (pasted_nil d at)
put_each (f ∷ fs) (v ∷ vs) at d room h =
    let b : List ℕ = bytes_for f v in
    let long = length_bytes_for f v in
    ap (put_from fs vs (at + f.width)) (ap (placed d at) (put_bytes_lem f.sign f.width v h.0) ∙ placed_fits d at b (omega arith))
    ∙ put_each fs vs (at + f.width) (pasted d at b) (rw (length_pasted d at b (omega arith)) (omega arith)) h.1
    ∙ pasted_append d at f.width b (record_bytes fs vs) long (omega arith)

-- the fields' bytes from `at` on, and all beside them as it was
pub put_fields :
    (fs : List Field) (vs : List ℤ) (at : ℕ) (d : List ℕ) {after : List ℕ}
    → at + size_of fs ≤ length d → Typed fs vs → after ≡ put_from fs vs at d → after ≡ pasted d at (record_bytes fs vs)
put_fields fs vs at d room typed e = e ∙ put_each fs vs at d room typed

-- ---- a layout in two parts

no_values : (fs : List Field) → record_bytes fs [] ≡ []
no_values [] = refl
no_values (f ∷ fs) = refl

in_two : (n : ℕ) (fs : List Field) (vs : List ℤ) → record_bytes (take n fs) (take n vs) ++ record_bytes (drop n fs) (drop n vs) ≡ record_bytes fs vs
in_two zero fs vs = refl
in_two (suc n) [] vs = refl
in_two (suc n) (f ∷ fs) [] = no_values (drop n fs)
in_two (suc n) (f ∷ fs) (v ∷ vs) =
    append_assoc (bytes_for f v) (record_bytes (take n fs) (take n vs)) (record_bytes (drop n fs) (drop n vs))
    ∙ ap (λ (l : List ℕ). bytes_for f v ++ l) (in_two n fs vs)

-- ---- the promise

module _ (fs : List Field) (vs : List ℤ) (full : length fs ≤ length vs) (buffer : List ℕ) where
  long : length (record_bytes fs vs) ≡ size_of fs
  long = length_record_bytes fs vs full

  pub no_room : length buffer < size_of fs → (written_row (Err BufferOverflow), buffer) ≡ write_of (bytes (record_bytes fs vs)) buffer
  no_room = overflows (record_bytes fs vs) buffer (size_of fs) long

  pub wrote :
      {after : List ℕ} → size_of fs ≤ length buffer → after ≡ pasted buffer 0 (record_bytes fs vs)
      → (written_row (Ok (size_of fs)), after) ≡ write_of (bytes (record_bytes fs vs)) buffer
  wrote room e = ap (λ (l : List ℕ). (written_row (Ok (size_of fs)), l)) e ∙ writes (record_bytes fs vs) buffer (size_of fs) long room

  -- by one call for each field ..
  pub wrote_all :
      {after : List ℕ} → size_of fs ≤ length buffer → Typed fs vs → after ≡ put_from fs vs 0 buffer
      → (written_row (Ok (size_of fs)), after) ≡ write_of (bytes (record_bytes fs vs)) buffer
  wrote_all room typed e = wrote room (put_fields fs vs 0 buffer (omega arith) typed e)

  -- .. or the first n fields, and then the others
  pub wrote_in_two :
      (n : ℕ) {half after : List ℕ} → size_of fs ≤ length buffer
      → half ≡ pasted buffer 0 (record_bytes (take n fs) (take n vs))
      → after ≡ pasted half (size_of (take n fs)) (record_bytes (drop n fs) (drop n vs))
      → (written_row (Ok (size_of fs)), after) ≡ write_of (bytes (record_bytes fs vs)) buffer
  wrote_in_two n {half} {after} room first second =
      let xs : List ℕ = record_bytes (take n fs) (take n vs) in
      let ys : List ℕ = record_bytes (drop n fs) (drop n vs) in
      let front : length xs ≡ size_of (take n fs) = length_record_bytes (take n fs) (take n vs) (simp length-take (omega arith)) in
      let whole : length xs + length ys ≡ size_of fs = sym (length-append xs ys) ∙ ap length (in_two n fs vs) ∙ long in
      wrote room
      (second
      ∙ ap (λ (l : List ℕ). pasted l (size_of (take n fs)) ys) first
      ∙ ap (λ (k : ℕ). pasted (pasted buffer 0 xs) k ys) (sym (zero-add (size_of (take n fs))))
      ∙ pasted_append buffer 0 (size_of (take n fs)) xs ys front (omega arith)
      ∙ ap (pasted buffer 0) (in_two n fs vs))

-- a record's bytes are a payload, where its layout has from 1 to 60
pub record_small : (fs : List Field) (vs : List ℤ) → length fs ≤ length vs → 0 < size_of fs → size_of fs ≤ most_payload → Small (bytes (record_bytes fs vs))
record_small fs vs h some few = omega (arith, length_record_bytes fs vs h)
