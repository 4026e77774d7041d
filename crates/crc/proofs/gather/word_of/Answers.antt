-- `crc::gather::word_of` meets its contract: the first bytes are the upper end of the first eight, and eights are left. Assumes nothing.
use mathlib.Core.Path.{◌∙◌, ap}
use Prim.Native.Nat.{ℕ, ◌+◌, ◌-◌, ◌*◌, ◌/◌, ◌%◌, ◌^◌}
use native.Mathlib.Omega.{arith}
use lib.ListN.{length}
use lib.Seq.{take_all}
use Rattle.base.specs.Bytes.{Bytes}
use Rattle.crc.specs.Word.{word_check}
use Rattle.crc.proofs.Gathered.{check_of_first, check_of_upper_end}
use Rattle.crc.proofs.gather.word_of.Goals as goal

pub returns-then-n-lt8 : goal.returns-then-n-lt8
returns-then-n-lt8 c =
    let s = c.args.s.now in
    let bytes : Bytes s = λ k. (c.shared_slice_known-1.given k).fits in
    rw (take_all (length s) s (omega arith)) at (ap word_check c.first_bytes.ensures ∙ check_of_first s (length s) bytes (omega arith) (omega arith))

pub by_eights-requires-clause-first_value : goal.by_eights-requires-clause-first_value
by_eights-requires-clause-first_value c =
    let s = c.args.s.now in
    let i : ℕ = (length s - 1) % 8 + 1 in
    let bytes : Bytes s = λ k. (c.shared_slice_known-1.given k).fits in
    ap (λ (w : ℕ). word_check (w / 2 ^ ((8 - i) * 8))) c.eight.ensures ∙ check_of_upper_end s i bytes (omega arith) (omega arith)
