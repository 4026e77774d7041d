-- The promise of each burst's writer leaves one answer and one content of the buffer.
-- Assumes nothing.
use mathlib.Core.List.{List}
use Prim.Native.Nat.{ℕ}
use Rattle.base.proofs.Unique.{OneAnswer}
use Rattle.writing.specs.Writing.{Written}
use Rattle.writing.proofs.Rows.{one_write}
use Rattle.bursts.proofs.write_rc_channels_burst.Reads as write-rc-channels-burst
use Rattle.bursts.proofs.write_rc_channels_burst_values.Reads as write-rc-channels-burst-values

pub write_rc_channels_burst_one : OneAnswer {Seen = Written × List ℕ} write-rc-channels-burst.Post (λ κs r s. (r, s.0.now))
write_rc_channels_burst_one κs a r r' s s' = one_write

pub write_rc_channels_burst_values_one : OneAnswer {Seen = Written × List ℕ} write-rc-channels-burst-values.Post (λ κs r s. (r, s.0.now))
write_rc_channels_burst_values_one κs a r r' s s' = one_write
