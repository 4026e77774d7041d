-- Each public function's promise leaves one answer, and one content of each buffer lent to be written.
-- Assumes nothing.
use mathlib.Core.List.{List}
use Prim.Native.Nat.{ℕ}
use Rattle.base.proofs.Unique.{OneAnswer, same}
use Rattle.writing.specs.Writing.{Written}
use Rattle.writing.proofs.Rows.{one_write}
use Rattle.parser.specs.declared.CrsfParser.{CrsfParser}
use Rattle.saved.specs.Save.{Restored}
use Rattle.saved.proofs.Rows.{one_restore}
use Rattle.saved.proofs.form.save_in.Reads as save-in
use Rattle.saved.proofs.form.restore_in.Reads as restore-in
use Rattle.saved.proofs.form.position_in.Reads as position_in
use Rattle.saved.proofs.save.Reads as save
use Rattle.saved.proofs.restore.Reads as restore

pub save_in_one : OneAnswer {Seen = Written × List ℕ} save-in.Post (λ κs r s. (r, s.1.1.1.1.0.now))
save_in_one κs a r r' s s' = one_write

pub restore_in_one : OneAnswer {Seen = Restored × List ℕ} restore-in.Post (λ κs r s. (r, s.0.now))
restore_in_one κs a r r' s s' = one_restore

pub position_in_one : OneAnswer {Seen = ℕ} position_in.Post (λ κs r s. r)
position_in_one κs a r r' s s' = same

pub save_one : OneAnswer {Seen = Written × List ℕ} save.Post (λ κs r s. (r, s.1.0.now))
save_one κs a r r' s s' = one_write

pub restore_one : OneAnswer {Seen = Restored × CrsfParser} restore.Post (λ κs r s. (r.restored, r.parser))
restore_one κs a r r' s s' = one_restore
