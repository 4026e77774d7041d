-- `channels::ElevenBits::last_word` meets its contract: the channels that it reads hold the bits of bytes 14 to 21.
-- Assumes nothing.
use mathlib.Core.Path.{◌∙◌}
use Prim.Native.Nat.{◌*◌, ◌/◌, ◌^◌, ◌+◌}
use native.Mathlib.Omega.{arith}
use Rattle.channels.specs.Digits.{number}
use Rattle.channels.specs.Channels.{channels_size}
use Rattle.channels.proofs.Digits.{places, same_digits, regroup_part}
use Rattle.channels.proofs.ElevenBits.last_word.Goals as goal

pub returns : goal.returns
unfolding number places
returns c =
    let channels = c.args.self.now.channels in
    same_digits 8 8 (c.three.result / 4 + c.three-2.result * 2147483648) (number 11 (places 6 10 channels) / 2 ^ 2) (omega arith)
    ∙ regroup_part 11 8 channels_size 6 10 2 channels 14 8 c.args.self.now.below (omega arith) (omega arith) (omega arith)
