-- Worked cases from both sides of each edge of the rules (RULES 4, 5, 10, 11), in one table. What each says stands with what it is about, in the
-- crates' own `Edges`; here they are put together.
-- Assumes nothing.
use Rattle.std.specs.Prelude.{◌≡◌, List, [], ◌∷◌, ◌++◌, map, ℕ, ℤ}
use Rattle.reading.specs.Edges as reading
use Rattle.reading.specs.Edges.{shown}
use Rattle.reading.specs.Reading.{limit, reading}
use Rattle.refusals.specs.declared.Refusal.TheVariants.{CapacityRange}
use Rattle.writing.specs.Writing.{bytes, refused}
use Rattle.channels.specs.Channels.{channels_image}
use Rattle.channels.specs.Edges as channels
use Rattle.altitude.specs.Altitude.{pack_of}
use Rattle.altitude.specs.Edges.{pack_edges}
use Rattle.records.specs.Battery.{battery_image}
use Rattle.records.specs.Edges.{battery_edges, capacity_edges}
use Rattle.records.specs.declared.battery.Battery.{Battery}

-- what is so in a case
pub data Case : Type 0 where
  -- a byte string gives these answers, and that many bytes are held at the end
  gives : reading.Edge → Case
  -- sixteen channels are written as these bytes
  carries : channels.Edge → Case
  -- that many decimetres pack to this word
  packs : ℤ × ℕ → Case
  -- a battery is written as these bytes
  writes : Battery × List ℕ → Case
  -- a battery is refused for its capacity
  refuses : Battery → Case

-- that it is so
abbrev pub IsSo : Case → Type 0
IsSo (gives e) = shown (reading limit e.input) ≡ e.gives
IsSo (carries e) = channels_image e.channels ≡ bytes e.gives
IsSo (packs (d, word)) = pack_of d ≡ word
IsSo (writes (battery, payload)) = battery_image battery ≡ bytes payload
IsSo (refuses battery) = battery_image battery ≡ refused CapacityRange

abbrev pub AllHold : List Case → Type 0
AllHold [] = Unit {0}
AllHold (c ∷ more) = IsSo c × AllHold more

abbrev pub table : List Case
table =
    map gives reading.edges ++ map carries channels.edges ++ map packs pack_edges ++ map writes battery_edges
    ++ map refuses capacity_edges
