-- `records::link_statistics::LinkStatistics::put_first_five` meets its contract: its fields are written at their places of the layout.
-- Assumes nothing.
use native.Mathlib.Omega.{arith}
use lib.ListN.{take}
use Rattle.records.specs.LinkStatistics.{link_statistics_layout, link_statistics_values}
use Rattle.layout.proofs.Writers.{Typed, put_from, put_fields}
use borrow.Author.Rules.{rules}
use Rattle.records.proofs.link_statistics.LinkStatistics.put_first_five.Goals as goal

pub returns : goal.returns
unfolding link_statistics_values put_from
returns c =
    let typed : Typed (take 5 link_statistics_layout) (take 5 (link_statistics_values c.args.self)) = search rules in
    put_fields (take 5 link_statistics_layout) (take 5 (link_statistics_values c.args.self)) 0 c.args.buffer.now (omega (arith, c.requires)) typed
    (rw (
      c.put_u8-4.ensures,
      c.put_i8.ensures,
      c.put_u8-3.ensures,
      c.put_u8-2.ensures,
      c.put_u8.ensures,
    ))
