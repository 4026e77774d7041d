-- `numbers::put_u64` meets its contract: there is room for all eight bytes, or nothing is written. Assumes nothing.
use mathlib.Core.Path.{sym, ◌∙◌}
use Prim.Native.Nat.{◌+◌, ◌≤◌}
use borrow.Author.Tests.{leb-true}
use lib.ListN.{length}
use Rattle.base.specs.Parts.{placed}
use Rattle.base.proofs.Parts.{placed_fits}
use Rattle.numbers.specs.BigEndian.{bytes_of}
use Rattle.numbers.proofs.BigEndian.{length_bytes_of}
use Rattle.numbers.proofs.put_u64.Goals as goal

pub write-requires : goal.write-requires
write-requires c =
    let room : let a = c.args in a.at + 8 ≤ length a.out.now = leb-true _ _ (sym c.fits.ensures ∙ c.if-fits.true) in
    room

pub returns-then-fits : goal.returns-then-fits
returns-then-fits c =
    let room : let a = c.args in a.at + 8 ≤ length a.out.now = leb-true _ _ (sym c.fits.ensures ∙ c.if-fits.true) in
    let a = c.args in
    c.write.ensures ∙ sym (placed_fits a.out.now a.at (bytes_of 8 a.v) (rw length_bytes_of room))

pub returns-else-fits : goal.returns-else-fits
unfolding placed
returns-else-fits c =
    simp (length_bytes_of, sym c.fits.ensures ∙ c.if-fits.false)
