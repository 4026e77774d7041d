-- `numbers::put` meets its contract: there is room for all the bytes, or nothing is written. Assumes nothing.
use mathlib.Core.Path.{◌≡◌, sym, ap, ◌∙◌}
use mathlib.Core.Bool.{false}
use Prim.Native.Nat.{ℕ, ◌+◌, ◌≤◌}
use borrow.Author.Tests.{leb-true}
use lib.Dec.{leb}
use lib.ListN.{length}
use Rattle.base.specs.Parts.{pasted, placed}
use Rattle.base.proofs.Parts.{placed_fits}
use Rattle.numbers.specs.Width.{width_of}
use Rattle.numbers.specs.BigEndian.{bytes_of}
use Rattle.numbers.proofs.BigEndian.{length_bytes_of}
use Rattle.numbers.proofs.put.Goals as goal

pub write-requires : goal.write-requires
write-requires c =
    let room : let a = c.args in a.at + c.width_of-whole.result ≤ length a.out.now = leb-true _ _ (sym c.fits.ensures ∙ c.if-fits.true) in
    room

pub returns-then-fits : goal.returns-then-fits
returns-then-fits c =
    let room : let a = c.args in a.at + c.width_of-whole.result ≤ length a.out.now = leb-true _ _ (sym c.fits.ensures ∙ c.if-fits.true) in
    let a = c.args in
    let n : ℕ = a.n in
    c.write.ensures
    ∙ ap (λ (x : ℕ). pasted a.out.now a.at (bytes_of c.width_of-whole.result x)) c.from.ensures
    ∙ sym (placed_fits a.out.now a.at (bytes_of c.width_of-whole.result n) (rw length_bytes_of room))
    ∙ ap (λ (w : ℕ). placed a.out.now a.at (bytes_of w n)) c.width_of-whole.ensures

pub returns-else-fits : goal.returns-else-fits
unfolding placed
returns-else-fits c =
    let a = c.args in
    let none : leb (a.at + width_of a.width) (length a.out.now) ≡ false =
    rw c.width_of-whole.ensures at (sym c.fits.ensures ∙ c.if-fits.false) in
    simp (length_bytes_of, none)
