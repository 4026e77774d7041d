-- `records::battery::Battery::put_short` meets its contract: its fields are written at their places of the layout.
-- Assumes nothing.
use native.Mathlib.Omega.{arith}
use lib.ListN.{take}
use Rattle.records.specs.Battery.{short_layout, battery_values}
use Rattle.layout.proofs.Writers.{Typed, put_from, put_fields}
use borrow.Author.Rules.{rules}
use Rattle.records.proofs.battery.Battery.put_short.Goals as goal

pub returns : goal.returns
unfolding battery_values put_from
returns c =
    let typed : Typed short_layout (take 4 (battery_values c.args.self)) = search rules in
    put_fields short_layout (take 4 (battery_values c.args.self)) 0 c.args.buffer.now (omega (arith, c.requires)) typed
    (rw (c.put_u8.ensures, c.put_u24.ensures, c.put_i16-2.ensures, c.put_i16.ensures))
