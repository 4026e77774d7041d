-- `channels::RcChannelsPacked::to_bytes` meets its contract.
-- Assumes nothing.
use Rattle.std.specs.Prelude.{Ok}
use mathlib.Core.Path.{◌≡◌, sym, ap, ◌∙◌}
use mathlib.Core.List.{List}
use Prim.Native.Nat.{ℕ, ◌≤◌}
use native.Mathlib.Omega.{arith}
use borrow.Author.Rules.{rules}
use lib.ListN.{length}
use Rattle.writing.specs.Writing.{written_row}
use Rattle.writing.proofs.Writing.{writes, overflows, refuses}
use Rattle.channels.specs.Digits.{number}
use Rattle.channels.specs.Channels.{channels_count, channels_size, channel_bytes, first_above}
use Rattle.channels.proofs.Digits.{length_digits}
use Rattle.channels.proofs.FirstAbove.{none_above, above_found, above_none}
use Rattle.channels.proofs.Laws.{image_refused, image_bytes}
use Rattle.channels.proofs.RcChannelsPackedCrsfPacket.to_bytes.Goals as goal

pub returns-in-Some : goal.returns-in-Some
returns-in-Some c =
    let sixteen : length c.args.self.0 ≡ channels_count = search rules in
    let found = above_found c.args.self.0 (sym c.in-Some.ensures) in
    rw (image_refused c.args.self (omega (arith, found.1)), found.0) (refuses _ c.args.buffer.now)

pub returns-then-buffer-lt-MIN_PAYLOAD_SIZE : goal.returns-then-buffer-lt-MIN_PAYLOAD_SIZE
returns-then-buffer-lt-MIN_PAYLOAD_SIZE c =
    let sixteen : length c.args.self.0 ≡ channels_count = search rules in
    let good : channels_count ≤ first_above c.args.self.0 = omega (arith, above_none c.args.self.0 (sym c.in_default.ensures)) in
    let wrote : length (channel_bytes c.args.self.0) ≡ channels_size = length_digits 8 channels_size (number 11 c.args.self.0) in
    rw (image_bytes c.args.self good)
    (overflows (channel_bytes c.args.self.0) c.args.buffer.now channels_size wrote (omega arith))

pub invariant_of-put : goal.invariant_of-put
invariant_of-put c = record { below = none_above c.args.self.0 (above_none c.args.self.0 (sym c.in_default.ensures)) }

pub returns : goal.returns
returns c =
    let sixteen : length c.args.self.0 ≡ channels_count = search rules in
    let good : channels_count ≤ first_above c.args.self.0 = omega (arith, above_none c.args.self.0 (sym c.in_default.ensures)) in
    let s : List ℕ = channel_bytes c.args.self.0 in
    let wrote : length s ≡ channels_size = length_digits 8 channels_size (number 11 c.args.self.0) in
    rw (image_bytes c.args.self good)
    (ap (λ (l : List ℕ). (written_row (Ok channels_size), l)) c.put.ensures ∙ writes s c.args.buffer.now channels_size wrote (omega arith))
