-- `channels::RcChannelsPacked::from_bytes` meets its contract. The invariant: the first i channels are written, and the others are still 0.
-- Assumes nothing.
use mathlib.Core.Path.{◌≡◌}
use lib.ListN.{replicate}
use Rattle.channels.specs.Channels.{channels_of, channels_count}
use Rattle.channels.proofs.Fill.{filling}
use Rattle.channels.proofs.RcChannelsPackedCrsfPacket.from_bytes.Given as goal

abbrev pub invariant-loop-i : goal.invariant-loop-i
invariant-loop-i l = l.channel-items ≡ filling (channels_of l.whole) (replicate channels_count 0) 0 l.i
