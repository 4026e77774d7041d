-- `channels::RcChannelsPacked::put` meets its contract.
-- Assumes nothing.
use mathlib.Core.Path.{◌≡◌, sym}
use mathlib.Core.List.{List}
use Prim.Native.Nat.{ℕ}
use native.Mathlib.Omega.{arith}
use lib.ListN.{length}
use Rattle.base.proofs.Parts.{placed_fits, placed_short}
use Rattle.channels.specs.Digits.{number}
use Rattle.channels.specs.Channels.{channels_size, channel_bytes, low_bits}
use Rattle.channels.proofs.Digits.{length_digits}
use Rattle.channels.proofs.RcChannelsPacked.put.Goals as goal

all : (channels : List ℕ) → length (channel_bytes channels) ≡ channels_size
all channels = length_digits 8 channels_size (number 11 channels)

pub returns-then-room-lt-MIN_PAYLOAD_SIZE : goal.returns-then-room-lt-MIN_PAYLOAD_SIZE
returns-then-room-lt-MIN_PAYLOAD_SIZE c =
    let a = c.args in
    let s = channel_bytes (low_bits a.self.0) in
    sym (placed_short a.buffer.now s (omega (arith, c.if-room-lt-MIN_PAYLOAD_SIZE.true, all (low_bits a.self.0))))

pub returns : goal.returns
returns c =
    let a = c.args in
    let d : List ℕ = a.buffer.now in
    let s : List ℕ = channel_bytes (low_bits a.self.0) in
    rw (c.put.ensures, c.low_bits.ensures) (sym (placed_fits d 0 s (omega (arith, c.if-room-lt-MIN_PAYLOAD_SIZE.false, all (low_bits a.self.0)))))
