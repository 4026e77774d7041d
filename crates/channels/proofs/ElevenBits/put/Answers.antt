-- `channels::ElevenBits::put` meets its contract: six bytes, eight and eight behind them are the 22.
-- Assumes nothing.
use mathlib.Core.Path.{ap, ◌∙◌}
use mathlib.Core.List.{List}
use Prim.Native.Nat.{ℕ}
use lib.ListN.{take}
use Rattle.channels.specs.Digits.{number}
use Rattle.channels.specs.Channels.{channel_bytes, channels_size}
use Rattle.channels.proofs.Digits.{length_digits, le_digits}
use Rattle.channels.proofs.Fill.{six_eight_eight}
use Rattle.channels.proofs.ElevenBits.put.Goals as goal

pub returns : goal.returns
returns c =
    let channels : List ℕ = c.args.self.now.channels in
    six_eight_eight (channel_bytes channels) c.args.buffer.now (length_digits 8 channels_size (number 11 channels)) c.requires
    (c.copy_from_slice.ensures.after ∙ ap (take 6) c.to_le_bytes.ensures ∙ le_digits 6 c.first_word.result ∙ c.first_word.ensures)
    (c.copy_from_slice-2.ensures.after ∙ c.to_le_bytes-2.ensures ∙ le_digits 8 c.middle_word.result ∙ c.middle_word.ensures)
    (c.copy_from_slice-3.ensures.after ∙ c.to_le_bytes-3.ensures ∙ le_digits 8 c.last_word.result ∙ c.last_word.ensures)
