-- Each public function's promise leaves one answer. `Post` is what the prover reads off the source's own `ensures`, so a weaker clause there breaks
-- its line here. Assumes nothing.
use Prim.Native.Nat.{ℕ}
use Rattle.base.proofs.Unique.{OneAnswer, same}
use Rattle.host_answer.specs.declared.answer.HostAnswer.{HostAnswer}
use Rattle.host_answer.specs.declared.reply.Told.{Told}
use Rattle.host_answer.specs.Seen.{SeenCall, seen_call}
use Rattle.host_answer.proofs.Calls.{one_call}
use Rattle.host_answer.proofs.answer.pack.Reads as pack
use Rattle.host_answer.proofs.answer.placed.Reads as placed
use Rattle.host_answer.proofs.answer.said.Reads as said
use Rattle.host_answer.proofs.answer.carried.Reads as carried
use Rattle.host_answer.proofs.answer.count.Reads as count
use Rattle.host_answer.proofs.answer.refuse.Reads as refuse
use Rattle.host_answer.proofs.reply.answer_call.Reads as answer_call_lem
use Rattle.host_answer.proofs.call.call.Reads as call
use Rattle.host_answer.proofs.answer.answer_result.Reads as answer-result

pub pack_one : OneAnswer {Seen = ℕ} pack.Post (λ κs r s. r)
pack_one κs a r r' s s' = same

pub placed_one : OneAnswer {Seen = HostAnswer} placed.Post (λ κs r s. r)
placed_one κs a r r' s s' = same

pub said_one : OneAnswer {Seen = HostAnswer} said.Post (λ κs r s. r)
said_one κs a r r' s s' = same

pub carried_one : OneAnswer {Seen = HostAnswer} carried.Post (λ κs r s. r)
carried_one κs a r r' s s' = same

pub count_one : OneAnswer {Seen = ℕ} count.Post (λ κs r s. r)
count_one κs a r r' s s' = same

pub refuse_one : OneAnswer {Seen = ℕ} refuse.Post (λ κs r s. r)
refuse_one κs a r r' s s' = same

pub answer_call_one : OneAnswer {Seen = Told} answer_call_lem.Post (λ κs r s. r)
answer_call_one κs a r r' s s' = same

-- by what a writer says, and by what a restore says
pub answer_written_one : OneAnswer {Seen = ℕ} answer-result.Post (λ κs r s. r)
answer_written_one κs a r r' s s' p q = same p.0 q.0

pub answer_restored_one : OneAnswer {Seen = ℕ} answer-result.Post (λ κs r s. r)
answer_restored_one κs a r r' s s' p q = same p.1 q.1

-- of a call of the stream: the eight bytes but for a frame's offset in the state, what is held and where it stands, of a refused state all, and the slice
pub call_one : OneAnswer {Seen = SeenCall} call.Post (λ κs r s. seen_call r s.0.now s.1.1.0.now)
call_one κs a r r' s s' = one_call a.0.now a.1.0.now a.1.1.0.now
