-- `crc::word::times_x64` meets its contract: it is tried at each bit. Assumes nothing.
use borrow.Author.Rules.{rules}
use Rattle.crc.specs.Remainder.{shift_bit, shifts}
use Rattle.crc.specs.Word.{residue, word_check}
use Rattle.base.proofs.Linear.{down, low, then, plus, shl_linear, agree}
use Rattle.crc.proofs.Shifts.{shifts_linear}
use Rattle.crc.proofs.Residue.{word_check_linear}
use Rattle.crc.proofs.word.times_x64.Goals as goal

pub returns : goal.returns
unfolding residue word_check shifts shift_bit
returns c =
    let over = plus (plus (plus (then (down 32) (shl_linear 3)) (low 32)) (then (low 32) (shl_linear 1))) (then (low 32) (shl_linear 6)) in
    agree (then over word_check_linear) (then word_check_linear (shifts_linear 64)) 64 tt c.args.w (search rules)
