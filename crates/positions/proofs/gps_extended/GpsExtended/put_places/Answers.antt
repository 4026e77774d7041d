-- `positions::gps_extended::GpsExtended::put_places` meets its contract: its fields are written at their places of the layout.
-- Assumes nothing.
use native.Mathlib.Omega.{arith}
use lib.ListN.{drop}
use Rattle.positions.specs.GpsExtended.{gps_extended_layout, gps_extended_values}
use Rattle.layout.proofs.Writers.{Typed, put_from, put_fields}
use borrow.Author.Rules.{rules}
use Rattle.positions.proofs.gps_extended.GpsExtended.put_places.Goals as goal

pub returns : goal.returns
unfolding gps_extended_values put_from
returns c =
    let typed : Typed (drop 6 gps_extended_layout) (drop 6 (gps_extended_values c.args.self)) = search rules in
    put_fields (drop 6 gps_extended_layout) (drop 6 (gps_extended_values c.args.self)) 11 c.args.buffer.now (omega (arith, c.requires)) typed
    (rw (
      c.put_u8-3.ensures,
      c.put_u8-2.ensures,
      c.put_u8.ensures,
      c.put_i16-3.ensures,
      c.put_i16-2.ensures,
      c.put_i16.ensures,
    ))
