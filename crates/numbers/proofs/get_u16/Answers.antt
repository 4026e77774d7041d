-- `numbers::get_u16` meets its contract: a number of 2 bytes fits a u16. Assumes nothing.
use Rattle.base.specs.Bytes.{Bytes}
use Rattle.numbers.proofs.BigEndian.{be_of_part_lt}
use Rattle.numbers.proofs.get_u16.Goals as goal

pub overflow_cast-result : goal.overflow_cast-result
overflow_cast-result c =
    let bytes : Bytes c.args.s.now = λ i. (c.shared_slice_known-1.given i).fits in
    rw c.get.ensures (record { fits = be_of_part_lt c.args.s.now c.args.at 2 bytes })
