-- RC channels (RULES 10): sixteen channels of 11 bits in 22 bytes. Channel i is bits 11 i to 11 i + 10 of the payload's little-endian number.
-- Assumes nothing.
use Rattle.std.specs.Prelude.{List, map, ℕ, ◌%◌, ◌^◌, ltb, Option, Some, None, length, take, replicate}
use Rattle.base.specs.Choice.{when◌then◌else◌}
use Rattle.base.specs.First.{first_where}
use Rattle.refusals.specs.Row.{row_of}
use Rattle.refusals.specs.declared.Refusal.TheVariants.{InvalidPayloadLength, ChannelRange}
use Rattle.writing.specs.Writing.{Image, bytes, refused}
use Rattle.layout.specs.Decoded.{record_row}
use Rattle.channels.specs.Digits.{number, digits}
use Rattle.channels.specs.declared.RcChannelsPacked.{RcChannelsPacked}

abbrev pub channels_type : ℕ
channels_type = 0x16

-- how many channels, the greatest that 11 bits hold, and their bytes
abbrev pub channels_count : ℕ
channels_count = 16

abbrev pub greatest : ℕ
greatest = 2047

abbrev pub channels_size : ℕ
channels_size = 22

abbrev pub channels_of : List ℕ → List ℕ
channels_of payload = digits 11 channels_count (number 8 payload)

-- the bytes, little-endian, of the number whose bits 11 i to 11 i + 10 are channel i
abbrev pub channel_bytes : List ℕ → List ℕ
channel_bytes channels = digits 8 channels_size (number 11 channels)

-- what 11 bits have of each channel: all of it, up to the greatest
abbrev pub low_bits : List ℕ → List ℕ
low_bits channels = map (λ c. c % 2 ^ 11) channels

-- the channels that stand for none
abbrev pub no_channels : RcChannelsPacked
no_channels = record { 0 = replicate channels_count 0 }

-- reading: what is said, as a row, and the channels beside it. A shorter payload is refused, with every channel 0; bytes behind are ignored
unfoldable pub channels_read : List ℕ → List ℕ × RcChannelsPacked
channels_read payload =
    when ltb (length payload) channels_size
    then (row_of InvalidPayloadLength, no_channels)
    else (record_row, record { 0 = channels_of (take channels_size payload) })

-- the place of the first channel that is too large, and the count of channels where there is none
abbrev pub first_above : List ℕ → ℕ
first_above channels = first_where (ltb greatest) channels

-- .. or none
abbrev pub place_above : List ℕ → Option ℕ
place_above channels = when ltb (first_above channels) (length channels) then Some (first_above channels) else None

-- what there is to write: the first channel that is too large is refused, with its place; else the bytes
unfoldable pub channels_image : RcChannelsPacked → Image
channels_image c = when ltb (first_above c.0) channels_count then refused (ChannelRange (first_above c.0)) else bytes (channel_bytes c.0)
