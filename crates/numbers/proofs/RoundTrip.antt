-- THE ROUND TRIP, over the width, as a writer and a reader of one buffer meet it. It stands on `be_of_bytes_of` and `bytes_of_be_of` of
-- proofs/BigEndian, and with a sign on `signed_of_twos_of` and `twos_of_signed_of` of proofs/TwosComplement.
-- Assumes nothing.
use mathlib.Core.Path.{◌≡◌, sym, ap, ◌∙◌}
use mathlib.Core.List.{List, ◌++◌, append_assoc}
use Prim.Native.Nat.{ℕ, ◌+◌, ◌%◌, ◌^◌, ◌≤◌, ◌<◌}
use native.Mathlib.Nat.{mod-eq_of_lt}
use native.Mathlib.Omega.{arith}
use lib.IntN.{ℤ}
use lib.ListN.{length, take, drop, take-append-drop}
use lib.Seq.{length-take-le, take_at, drop_at, drop-drop}
use Rattle.base.specs.Bytes.{Bytes}
use Rattle.base.specs.Parts.{part, pasted, placed}
use Rattle.base.proofs.Parts.{length_part, bytes_part, placed_fits}
use Rattle.numbers.specs.BigEndian.{be_of, bytes_of}
use Rattle.numbers.specs.TwosComplement.{signed_of, twos_of, InRange}
use Rattle.numbers.proofs.BigEndian.{length_bytes_of, be_of_bytes_of, bytes_of_be_of, be_of_part_lt}
use Rattle.numbers.proofs.TwosComplement.{signed_of_twos_of, twos_of_signed_of, twos_of_lt}

module _ (d : List ℕ) (at w : ℕ) (room : at + w ≤ length d) where
  -- what was placed stands there
  part_placed : (vs : List ℕ) → length vs ≡ w → part (placed d at vs) at w ≡ vs
  unfolding pasted
  part_placed vs long =
      let rest : List ℕ = drop (at + length vs) d in
      ap (λ (l : List ℕ). take w (drop at l)) (placed_fits d at vs (omega arith) ∙ append_assoc (take at d) vs rest)
      ∙ ap (take w) (drop_at (take at d) (vs ++ rest) at (length-take-le at d (omega arith)))
      ∙ take_at vs rest w long

  -- what stands there, placed, changes nothing
  placed_part : placed d at (part d at w) ≡ d
  unfolding pasted
  placed_part =
      placed_fits d at (part d at w) (omega (arith, length_part d at w room))
      ∙ append_assoc (take at d) (part d at w) (drop (at + length (part d at w)) d)
      ∙ ap (λ (l : List ℕ). take at d ++ (part d at w ++ l))
      (ap (λ (n : ℕ). drop (at + n) d) (length_part d at w room) ∙ sym (drop-drop w at d))
      ∙ ap (λ (l : List ℕ). take at d ++ l) (take-append-drop w (drop at d))
      ∙ take-append-drop at d

  -- ---- unsigned

  -- reading after writing gives what the number leaves modulo 256 ^ w: the number, where it has w bytes
  pub read_written : (n : ℕ) → be_of (part (placed d at (bytes_of w n)) at w) ≡ n % 256 ^ w
  read_written n = ap be_of (part_placed (bytes_of w n) (length_bytes_of w n)) ∙ be_of_bytes_of w n

  -- writing what was read changes nothing
  pub written_read : Bytes d → placed d at (bytes_of w (be_of (part d at w))) ≡ d
  written_read bytes =
      ap (placed d at)
      (ap (λ (n : ℕ). bytes_of n (be_of (part d at w))) (sym (length_part d at w room)) ∙ bytes_of_be_of (part d at w) (bytes_part d at w bytes))
      ∙ placed_part

  -- ---- in two's complement

  pub read_written_signed : (z : ℤ) → 0 < w → InRange w z → signed_of w (be_of (part (placed d at (bytes_of w (twos_of w z))) at w)) ≡ z
  read_written_signed z p r =
      ap (signed_of w) (read_written (twos_of w z) ∙ mod-eq_of_lt (twos_of_lt w z)) ∙ signed_of_twos_of w z p r

  pub written_read_signed : Bytes d → placed d at (bytes_of w (twos_of w (signed_of w (be_of (part d at w))))) ≡ d
  written_read_signed bytes =
      ap (λ (n : ℕ). placed d at (bytes_of w n)) (twos_of_signed_of w (be_of (part d at w)) (be_of_part_lt d at w bytes))
      ∙ written_read bytes
