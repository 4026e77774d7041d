-- `crc::gather::fresh_word_of` meets its contract: the first bytes are those before the last whole eights. Assumes nothing.
use mathlib.Core.Path.{◌∙◌, ap}
use Prim.Native.Nat.{◌%◌}
use native.Mathlib.Omega.{arith}
use lib.ListN.{length}
use Rattle.base.specs.Bytes.{Bytes}
use Rattle.crc.specs.Word.{word_check}
use Rattle.crc.proofs.Gathered.{check_of_first}
use Rattle.crc.proofs.gather.fresh_word_of.Goals as goal

pub by_eights-requires-clause-first_value : goal.by_eights-requires-clause-first_value
by_eights-requires-clause-first_value c =
    let s = c.args.s.now in
    let bytes : Bytes s = λ k. (c.shared_slice_known-1.given k).fits in
    ap word_check c.first_bytes.ensures ∙ check_of_first s (length s % 8) bytes (omega arith) (omega arith)
