-- `records::link_statistics::LinkStatistics::to_bytes` meets its contract: one part of the layout after the other.
-- Assumes nothing.
use lib.Dec.{lit≤}
use Rattle.records.specs.LinkStatistics.{link_statistics_layout, link_statistics_values}
use Rattle.layout.proofs.Writers.{no_room, wrote_in_two}
use Rattle.records.proofs.link_statistics.LinkStatisticsCrsfPacket.to_bytes.Goals as goal

pub returns-then-buffer-lt-MIN_PAYLOAD_SIZE : goal.returns-then-buffer-lt-MIN_PAYLOAD_SIZE
unfolding link_statistics_values
returns-then-buffer-lt-MIN_PAYLOAD_SIZE c =
    no_room link_statistics_layout (link_statistics_values c.args.self) (lit≤ tt) c.args.buffer.now c.if-buffer-lt-MIN_PAYLOAD_SIZE.true

pub returns : goal.returns
unfolding link_statistics_values
returns c =
    wrote_in_two link_statistics_layout (link_statistics_values c.args.self) (lit≤ tt) c.args.buffer.now 5 c.if-buffer-lt-MIN_PAYLOAD_SIZE.false
    c.put_first_five.ensures c.put_other_five.ensures
