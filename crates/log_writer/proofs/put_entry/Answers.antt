use mathlib.Core.Path.{◌≡◌, sym, ◌∙◌}
use mathlib.Core.Bool.{true}
use Rattle.log_writer.specs.Writer.{is_frame}
use Rattle.log_writer.proofs.Frames.{as_tested}
use Rattle.log_writer.proofs.Writes.{room, entry_written}
use Rattle.log_writer.proofs.put_entry.Goals as goal

pub returns : goal.returns
returns c =
    let a = c.args in
    let whole : is_frame a.frame.now ≡ true = sym (as_tested _ c.is_valid.ensures) ∙ c.if-not-is_valid.false in
    let behind = rw c.from-since.ensures at c.size-behind.ensures in
    let fits = room a.seconds a.frame.now a.out.now whole behind c.size.ensures (sym c.fits.ensures ∙ c.if-not-fits.false) in
    entry_written a.seconds a.frame.now a.out.now whole behind c.size.ensures fits (rw c.from-since.ensures at c.put.ensures) c.put-2.ensures c.copy_in.ensures
