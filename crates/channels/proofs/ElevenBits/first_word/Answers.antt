-- `channels::ElevenBits::first_word` meets its contract: the channels that it reads hold the bits of bytes 0 to 5.
-- Assumes nothing.
use mathlib.Core.Path.{◌∙◌}
use Prim.Native.Nat.{◌*◌, ◌/◌, ◌%◌, ◌^◌, ◌+◌}
use native.Mathlib.Omega.{arith}
use Rattle.channels.specs.Digits.{number}
use Rattle.channels.specs.Channels.{channels_size}
use Rattle.channels.proofs.Digits.{places, same_digits, regroup_part}
use Rattle.channels.proofs.ElevenBits.first_word.Goals as goal

pub returns : goal.returns
unfolding number places
returns c =
    let channels = c.args.self.now.channels in
    same_digits 8 6 (c.three.result + c.three-2.result % 32768 * 8589934592) (number 11 (places 6 0 channels) / 2 ^ 0) (omega arith)
    ∙ regroup_part 11 8 channels_size 6 0 0 channels 0 6 c.args.self.now.below (omega arith) (omega arith) (omega arith)
