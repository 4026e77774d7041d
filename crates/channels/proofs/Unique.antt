-- Each public function's promise leaves one answer, and one content of the buffer.
-- Assumes nothing.
use mathlib.Core.List.{List}
use Rattle.std.specs.Prelude.{Option, Result}
use Prim.Native.Nat.{ℕ}
use Rattle.base.proofs.Unique.{OneAnswer, same}
use Rattle.writing.specs.Writing.{Written}
use Rattle.writing.proofs.Rows.{one_write}
use Rattle.layout.proofs.Known.{one_read}
use Rattle.refusals.specs.declared.Refusal.{Refusal}
use Rattle.channels.specs.Channels.{no_channels}
use Rattle.channels.specs.declared.RcChannelsPacked.{RcChannelsPacked}
use Rattle.channels.proofs.RcChannelsPackedCrsfPacket.from_bytes.Reads as from_bytes
use Rattle.channels.proofs.RcChannelsPackedCrsfPacket.to_bytes.Reads as to-bytes
use Rattle.channels.proofs.RcChannelsPacked.first_above.Reads as first_above
use Rattle.channels.proofs.RcChannelsPacked.put.Reads as put

pub from_bytes_one : OneAnswer {Seen = Result RcChannelsPacked Refusal} from_bytes.Post (λ κs r s. r)
from_bytes_one κs a r r' s s' = one_read no_channels

pub to_bytes_one : OneAnswer {Seen = Written × List ℕ} to-bytes.Post (λ κs r s. (r, s.1.0.now))
to_bytes_one κs a r r' s s' = one_write

pub first_above_one : OneAnswer {Seen = Option ℕ} first_above.Post (λ κs r s. r)
first_above_one κs a r r' s s' = same

pub put_one : OneAnswer {Seen = List ℕ} put.Post (λ κs r s. s.1.0.now)
put_one κs a r r' s s' = same
