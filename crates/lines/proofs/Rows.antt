-- Lines by number and values. The words go by the kind of an answer in `line`, and by the number of its row in `refusal_line`: that both are the same
-- ties words and numbers, so two numbers swapped in either are noticed here.
-- Assumes nothing.
use mathlib.Core.Path.{◌≡◌, refl}
use mathlib.Core.List.{List, []}
use Prim.Native.Nat.{ℕ, ◌-◌}
use lib.Dec.{eqb}
use lib.ListN.{length, get_or, drop}
use Rattle.base.specs.Choice.{when◌then◌else◌}
use Rattle.reading.specs.Answer as reading
use Rattle.reading.specs.Answer.{Answer, Frame, row}
use Rattle.refusals.specs.Row.{row_of}
use Rattle.refusals.specs.declared.Refusal.{Refusal}
use Rattle.refusals.specs.declared.Refusal.TheVariants.{InvalidSync, InvalidPacketLength, InvalidCrc, InvalidPayloadLength, BufferOverflow, ChannelRange, BadAddress, BadState, InvalidLog, InvalidFrame, CapacityRange, SetChannelRange, PositionRange}
use Rattle.lines.specs.Lines.{frame_line, line, refusal_line}

-- ---- The line of an answer is that of its row

abbrev pub line_of : List ℕ → List ℕ
line_of r = when eqb (get_or r 0 0) 0 then (let c = drop 1 r in frame_line (get_or c 0 0) (get_or c 2 0) (length c - 4)) else refusal_line r

pub line_of_row : (a : Answer) → line a ≡ line_of (row a)
unfolding line row refusal_line
line_of_row (reading.InvalidSync c) = refl
line_of_row (reading.InvalidPacketLength c) = refl
line_of_row (reading.InvalidCrc c) = refl
line_of_row (Frame c) = refl

-- ---- No line for what the stream is not refused with

pub other_line : (r : Refusal) → ((b : ℕ) → r ≡ InvalidSync b → ⊥) → ((b : ℕ) → r ≡ InvalidPacketLength b → ⊥)
    → ((b c : ℕ) → r ≡ InvalidCrc b c → ⊥) → refusal_line (row_of r) ≡ []
unfolding refusal_line
other_line (InvalidSync b) p q s = absurd (p b refl)
other_line (InvalidPacketLength b) p q s = absurd (q b refl)
other_line (InvalidCrc b c) p q s = absurd (s b c refl)
other_line InvalidPayloadLength p q s = refl
other_line BufferOverflow p q s = refl
other_line (ChannelRange i) p q s = refl
other_line BadAddress p q s = refl
other_line BadState p q s = refl
other_line InvalidLog p q s = refl
other_line InvalidFrame p q s = refl
other_line CapacityRange p q s = refl
other_line (SetChannelRange i j) p q s = refl
other_line PositionRange p q s = refl
