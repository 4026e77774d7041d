-- The one definition of a refusal's number and of what it carries (docs/RULES.md, 1). Every promise that speaks of a refusal goes through it.
-- Assumes nothing.
use Rattle.std.specs.Prelude.{ℕ, List, [], ◌∷◌, get_or}
use Rattle.refusals.specs.declared.Refusal.{Refusal}
use Rattle.refusals.specs.declared.Refusal.TheVariants.{InvalidSync, InvalidPacketLength, InvalidCrc, InvalidPayloadLength, BufferOverflow, ChannelRange, BadAddress, BadState, InvalidLog, InvalidFrame, CapacityRange, SetChannelRange, PositionRange}
use Rattle.refusals.specs.declared.Row.{Row}

-- the number, then what is carried. A channel that is too large has one number, whether it stands in one set or in several
abbrev pub row_of : Refusal → List ℕ
row_of (InvalidSync byte) = 1 ∷ byte ∷ []
row_of (InvalidPacketLength length) = 2 ∷ length ∷ []
row_of (InvalidCrc calculated carried) = 3 ∷ calculated ∷ carried ∷ []
row_of InvalidPayloadLength = 4 ∷ []
row_of BufferOverflow = 5 ∷ []
row_of (ChannelRange index) = 6 ∷ index ∷ []
row_of (SetChannelRange set channel) = 6 ∷ set ∷ channel ∷ []
row_of BadAddress = 7 ∷ []
row_of BadState = 8 ∷ []
row_of InvalidLog = 9 ∷ []
row_of InvalidFrame = 10 ∷ []
row_of CapacityRange = 11 ∷ []
row_of PositionRange = 12 ∷ []

abbrev pub number_of : Refusal → ℕ
number_of r = get_or (row_of r) 0 0

-- a row as the code holds it
abbrev pub struct_of : List ℕ → Row
struct_of row = record { number = get_or row 0 0; first = get_or row 1 0; second = get_or row 2 0 }
