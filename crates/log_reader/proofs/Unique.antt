-- Each public function's promise leaves one answer. `Post` is what the prover reads off the source's own `ensures`, so a weaker clause there breaks
-- its line here. Assumes nothing.
use mathlib.Core.Bool.{Bool}
use mathlib.Core.List.{List}
use Prim.Native.Nat.{ℕ}
use Rattle.base.proofs.Unique.{OneAnswer, OneAnswerOver, same}
use Rattle.log_reader.specs.State.{is_state}
use Rattle.log_reader.specs.Seen.{Seen, seen}
use Rattle.log_reader.specs.declared.Reader.{Reader}
use Rattle.log_reader.specs.declared.Closed.{Closed}
use Rattle.log_reader.proofs.Known.{one_call, one_end}
use Rattle.log_reader.proofs.reset.Reads as reset
use Rattle.log_reader.proofs.is_state.Reads as is_state
use Rattle.log_reader.proofs.next.Reads as next
use Rattle.log_reader.proofs.end.Reads as end
use Rattle.log_reader.proofs.frame.Reads as frame

pub reset_one : OneAnswer {Seen = Reader} reset.Post (λ κs r s. r)
reset_one κs a r r' s s' = same

pub is_state_one : OneAnswer {Seen = Bool} is_state.Post (λ κs r s. r)
is_state_one κs a r r' s s' = same

pub end_one : OneAnswer {Seen = Closed} end.Post (λ κs r s. r)
end_one κs a r r' s s' = one_end _ _

pub frame_one : OneAnswer {Seen = List ℕ} frame.Post (λ κs r s. r.now)
frame_one κs a r r' s s' = same

pub next_one : OneAnswerOver {Seen = Seen} next.Post (λ κs a r s. seen (is_state a.0.now a.1.0) s.0.now r)
next_one κs a r r' s s' n n' = one_call _ _ _ n n'
