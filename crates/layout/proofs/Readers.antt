-- A reader that calls for one field after the other reads what the layout says, over the layout.
-- Assumes nothing.
use Prim.Native.Nat.{ℕ, ◌+◌, ◌/◌, ◌^◌, ◌≤◌, ◌<◌}
use mathlib.Core.Bool.{Bool, true, false}
use mathlib.Core.Path.{◌≡◌, refl, ap, ap₂, ◌∙◌}
use mathlib.Core.List.{List, [], ◌∷◌}
use native.Mathlib.Nat.{lt_of_lt_of_le}
use borrow.Author.Tests.{le-leb, lt-leb}
use lib.Dec.{T, ltb, leb, ltb→lt, leb→le}
use lib.IntN.{ℤ, pos}
use lib.ListN.{length, get_or}
use mir.Syntax.{w8}
use mir.Val.{Fits, hbits}
use mir.ValLaws.{to_z-of_z}
use Rattle.base.specs.Bytes.{Bytes}
use Rattle.base.specs.Parts.{part}
use Rattle.base.proofs.Every.{both, both_left, both_right}
use Rattle.numbers.specs.BigEndian.{be_of}
use Rattle.numbers.specs.TwosComplement.{signed_of}
use Rattle.numbers.proofs.TwosComplement.{signed_part_range}
use Rattle.layout.specs.Layout.{Field, size_of, read_as_signed, read_from}
use Rattle.layout.specs.Decoded.{Decoded, decoded, too_short, read_of}
use Rattle.layout.proofs.Carried.{machine, carry}

-- the machine has room for a field's numbers
abbrev room_by : Bool → ℕ → Bool
room_by true w = both (ltb 0 w) (leb (256 ^ w / 2) (2 ^ hbits (machine w)))
room_by false w = true

abbrev pub room : List Field → Bool
room [] = true
room (f ∷ fs) = both (room_by f.sign f.width) (room fs)

-- the number that a call reads for a field
abbrev got_value : Bool → ℕ → ℕ → ℤ
got_value true w n = carry w (signed_of w n)
got_value false w n = pos n

-- the numbers that a call for each field reads
unfoldable pub got_from : List Field → ℕ → List ℕ → List ℤ
got_from [] at bs = []
got_from (f ∷ fs) at bs = got_value f.sign f.width (be_of (part bs at f.width)) ∷ got_from fs (at + f.width) bs

module _ (bs : List ℕ) (b : Bytes bs) where
  got_value_lem : (s : Bool) (w at : ℕ) → T (room_by s w) → got_value s w (be_of (part bs at w)) ≡ read_as_signed s w (be_of (part bs at w))
  got_value_lem true w at t =
      let some : 0 < w = ltb→lt 0 w (both_left (ltb 0 w) (leb (256 ^ w / 2) (2 ^ hbits (machine w))) t) in
      let enough : 256 ^ w / 2 ≤ 2 ^ hbits (machine w) =
      leb→le (256 ^ w / 2) (2 ^ hbits (machine w)) (both_right (ltb 0 w) (leb (256 ^ w / 2) (2 ^ hbits (machine w))) t) in
      to_z-of_z (machine w) (signed_of w (be_of (part bs at w))) (record { sfits = lt_of_lt_of_le (signed_part_range bs at w some b) enough })
  got_value_lem false w at t = refl

  got_each : (fs : List Field) (at : ℕ) → T (room fs) → got_from fs at bs ≡ read_from fs at bs
  unfolding got_from
  got_each [] at t = refl
  got_each (f ∷ fs) at t =
      ap₂ (λ (z : ℤ) (zs : List ℤ). z ∷ zs)
      (got_value_lem f.sign f.width at (both_left (room_by f.sign f.width) (room fs) t))
      (got_each fs (at + f.width) (both_right (room_by f.sign f.width) (room fs) t))

module _ (fs : List Field) (payload : List ℕ) where
  pub too_short_lem : length payload < size_of fs → too_short ≡ read_of fs payload
  too_short_lem h = simp (lt-leb _ _ h)

  module _ (t : T (room fs)) (known : (i : ℕ) → Fits w8 (get_or payload i 0)) where
    pub got : got_from fs 0 payload ≡ read_from fs 0 payload
    got = got_each payload (λ i. (known i).fits) fs 0 t

    pub all_got : {a : Decoded} → size_of fs ≤ length payload → a ≡ decoded (got_from fs 0 payload) → a ≡ read_of fs payload
    all_got h e = simp (le-leb _ _ h) (e ∙ ap decoded got)
