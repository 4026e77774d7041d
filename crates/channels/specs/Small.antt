-- The payload of RC channels fits a frame.
-- Assumes nothing.
use Rattle.std.specs.Prelude.{ltb}
use lib.Dec.{lit<, lit≤}
use Rattle.base.proofs.Tests.{by_test}
use Rattle.layout.specs.Packet.{Small}
use Rattle.channels.specs.Digits.{digits}
use Rattle.channels.specs.Channels.{channels_count, first_above, channels_image}
use Rattle.channels.specs.declared.RcChannelsPacked.{RcChannelsPacked}

pub channels_small : (c : RcChannelsPacked) → Small (channels_image c)
unfolding channels_image digits
channels_small c = by_test (ltb (first_above c.0) channels_count) (λ bad. rw bad tt) (λ good. rw good (lit< tt, lit≤ tt))
