-- A row is of one refusal, so a promise of the row leaves one refusal. The numbers are spelled here a second time: two of them swapped in the
-- definition and in the code together are refused here.
-- Assumes nothing.
use Prim.Native.Nat.{ℕ, ◌<◌}
use mathlib.Core.Path.{◌≡◌, refl, sym, ap, ◌∙◌}
use mathlib.Core.List.{List, ◌∷◌}
use native.Mathlib.Omega.{arith}
use lib.Dec.{eqb}
use lib.ListN.{length, get_or}
use Rattle.base.specs.Choice.{when◌then◌else◌}
use Rattle.refusals.specs.declared.Refusal.{Refusal}
use Rattle.refusals.specs.declared.Refusal.TheVariants.{InvalidSync, InvalidPacketLength, InvalidCrc, InvalidPayloadLength, BufferOverflow, ChannelRange, BadAddress, BadState, InvalidLog, InvalidFrame, CapacityRange, SetChannelRange, PositionRange}
use Rattle.refusals.specs.Row.{row_of, number_of}

-- the refusal that a row is of; of a row that no refusal has, any
abbrev pub refusal_of : List ℕ → Refusal
refusal_of row =
    when eqb (get_or row 0 0) 1 then InvalidSync (get_or row 1 0) else
    when eqb (get_or row 0 0) 2 then InvalidPacketLength (get_or row 1 0) else
    when eqb (get_or row 0 0) 3 then InvalidCrc (get_or row 1 0) (get_or row 2 0) else
    when eqb (get_or row 0 0) 4 then InvalidPayloadLength else
    when eqb (get_or row 0 0) 5 then BufferOverflow else
    when eqb (get_or row 0 0) 6 then (when eqb (length row) 3 then SetChannelRange (get_or row 1 0) (get_or row 2 0) else ChannelRange (get_or row 1 0)) else
    when eqb (get_or row 0 0) 7 then BadAddress else
    when eqb (get_or row 0 0) 8 then BadState else
    when eqb (get_or row 0 0) 9 then InvalidLog else
    when eqb (get_or row 0 0) 10 then InvalidFrame else
    when eqb (get_or row 0 0) 11 then CapacityRange else
    when eqb (get_or row 0 0) 12 then PositionRange else
    InvalidSync 0

pub back : (r : Refusal) → refusal_of (row_of r) ≡ r
back (InvalidSync byte) = refl
back (InvalidPacketLength length) = refl
back (InvalidCrc calculated carried) = refl
back InvalidPayloadLength = refl
back BufferOverflow = refl
back (ChannelRange index) = refl
back (SetChannelRange set channel) = refl
back BadAddress = refl
back BadState = refl
back InvalidLog = refl
back InvalidFrame = refl
back CapacityRange = refl
back PositionRange = refl

pub one_refusal : {r s : Refusal} → row_of r ≡ row_of s → r ≡ s
one_refusal {r} {s} same = sym (back r) ∙ ap refusal_of same ∙ back s

-- every number is from 1 to 254: a success has 0, and a host is asked for more by 255
pub number_bounds : (r : Refusal) → (0 < number_of r) × (number_of r < 255)
number_bounds (InvalidSync byte) = omega arith
number_bounds (InvalidPacketLength length) = omega arith
number_bounds (InvalidCrc calculated carried) = omega arith
number_bounds InvalidPayloadLength = omega arith
number_bounds BufferOverflow = omega arith
number_bounds (ChannelRange index) = omega arith
number_bounds (SetChannelRange set channel) = omega arith
number_bounds BadAddress = omega arith
number_bounds BadState = omega arith
number_bounds InvalidLog = omega arith
number_bounds InvalidFrame = omega arith
number_bounds CapacityRange = omega arith
number_bounds PositionRange = omega arith

pub not_zero : (r : Refusal) {values : List ℕ} → row_of r ≡ 0 ∷ values → ⊥
not_zero r {values} e =
    let number : number_of r ≡ 0 = ap (λ (row : List ℕ). get_or row 0 0) e in
    omega (arith, number_bounds r)
