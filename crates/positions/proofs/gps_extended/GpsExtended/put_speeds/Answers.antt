-- `positions::gps_extended::GpsExtended::put_speeds` meets its contract: its fields are written at their places of the layout.
-- Assumes nothing.
use native.Mathlib.Omega.{arith}
use lib.ListN.{take}
use Rattle.positions.specs.GpsExtended.{gps_extended_layout, gps_extended_values}
use Rattle.layout.proofs.Writers.{Typed, put_from, put_fields}
use borrow.Author.Rules.{rules}
use Rattle.positions.proofs.gps_extended.GpsExtended.put_speeds.Goals as goal

pub shape_of-buffer : goal.shape_of-buffer
shape_of-buffer c =
    rw (c.put_i16-5.auto.out, c.put_i16-4.auto.out, c.put_i16-3.auto.out, c.put_i16-2.auto.out, c.put_i16.auto.out) c.put_u8.auto.out

pub returns : goal.returns
unfolding gps_extended_values put_from
returns c =
    let typed : Typed (take 6 gps_extended_layout) (take 6 (gps_extended_values c.args.self)) = search rules in
    put_fields (take 6 gps_extended_layout) (take 6 (gps_extended_values c.args.self)) 0 c.args.buffer.now (omega (arith, c.requires)) typed
    (rw (
      c.put_i16-5.ensures,
      c.put_i16-4.ensures,
      c.put_i16-3.ensures,
      c.put_i16-2.ensures,
      c.put_i16.ensures,
      c.put_u8.ensures,
    ))
