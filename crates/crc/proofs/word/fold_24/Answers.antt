-- `crc::word::fold_24` meets its contract: it is tried at each bit. Assumes nothing.
use lib.Dec.{lit≤}
use borrow.Author.Rules.{rules}
use Rattle.crc.specs.Remainder.{shift_bit, shifts}
use Rattle.crc.specs.Word.{residue}
use Rattle.crc.proofs.Folds.{fold}
use Rattle.crc.proofs.word.fold_24.Goals as goal

pub returns : goal.returns
unfolding residue shifts shift_bit
returns c =
    fold 24 1 7 22 (lit≤ tt) (lit≤ tt) tt c.args.w (search rules)
