-- The promise of the one public function leaves one answer and one content of the buffer.
-- Assumes nothing.
use mathlib.Core.List.{List}
use Prim.Native.Nat.{ℕ}
use Rattle.base.proofs.Unique.{OneAnswer, same}
use Rattle.comparing.specs.declared.Compared.{Compared}
use Rattle.comparing.proofs.compare_in.Reads as compare-in

pub compare_in_one : OneAnswer {Seen = Compared × List ℕ} compare-in.Post (λ κs r s. (r, s.1.1.1.0.now))
compare_in_one κs a r r' s s' p q = same p.0 q.0
