-- `crc::word::check_of` meets its contract: the folds keep what the word leaves, before and after it is moved up by a byte; of the two bytes that are
-- left the tables shift the upper onto the lower.
-- Assumes nothing.
use mathlib.Core.Path.{◌≡◌, sym, ap, ◌∙◌}
use Prim.Native.Nat.{ℕ, ◌*◌, ◌%◌, ◌^◌}
use native.Mathlib.Omega.{arith}
use lib.Bits.{bit_xor}
use Rattle.crc.specs.Remainder.{shifts}
use Rattle.crc.specs.Word.{residue, word_check}
use Rattle.crc.proofs.Residue.{times_x8, residue_two}
use Rattle.crc.proofs.word.check_of.Goals as goal

pub returns : goal.returns
unfolding word_check
returns c =
    let v = c.fold_16-v.result in
    let f = c.fold_32.result in
    let up : f * 2 ^ 8 % 2 ^ 64 ≡ f * 256 = omega (arith, c.fold_32.ensures.1) in
    ap (λ (x : ℕ). bit_xor x (v % 256)) c.shifted.ensures
    ∙ sym (residue_two v c.fold_16-v.ensures.1)
    ∙ c.fold_16-v.ensures.0
    ∙ c.fold_24.ensures.0
    ∙ ap (residue 8) up
    ∙ times_x8 f (omega (arith, c.fold_32.ensures.1))
    ∙ ap (shifts 8) c.fold_32.ensures.0
