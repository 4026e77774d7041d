-- `crc::gather::four` meets its contract. Assumes nothing.
use native.Mathlib.Omega.{arith}
use Rattle.crc.proofs.Gathered.{be_of_four}
use Rattle.crc.proofs.gather.four.Goals as goal

pub returns : goal.returns
returns c =
    let a = c.args in
    let bytes = be_of_four a.s.now a.i (omega arith) in
    (omega (arith, bytes), omega arith)
