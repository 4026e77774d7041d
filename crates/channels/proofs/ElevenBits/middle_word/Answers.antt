-- `channels::ElevenBits::middle_word` meets its contract: the channels that it reads hold the bits of bytes 6 to 13.
-- Assumes nothing.
use mathlib.Core.Path.{◌∙◌}
use Prim.Native.Nat.{◌*◌, ◌/◌, ◌%◌, ◌^◌, ◌+◌}
use native.Mathlib.Omega.{arith}
use Rattle.channels.specs.Digits.{number}
use Rattle.channels.specs.Channels.{channels_size}
use Rattle.channels.proofs.Digits.{places, same_digits, regroup_part}
use Rattle.channels.proofs.ElevenBits.middle_word.Goals as goal

pub returns : goal.returns
unfolding number places
returns c =
    let channels = c.args.self.now.channels in
    same_digits 8 8 (c.three.result / 16 + c.three-2.result * 536870912 + c.at.result % 4 * 4611686018427387904) (number 11 (places 7 4 channels) / 2 ^ 4) (omega arith)
    ∙ regroup_part 11 8 channels_size 7 4 4 channels 6 8 c.args.self.now.below (omega arith) (omega arith) (omega arith)
