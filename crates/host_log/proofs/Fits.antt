-- Every count that the log's entries answer fits a byte.
-- Assumes nothing.
use Rattle.std.specs.Prelude.{Ok, Err}
use mathlib.Core.Path.{◌≡◌, ◌∙◌}
use mathlib.Core.List.{List}
use Prim.Native.Nat.{ℕ, ◌≤◌}
use native.Mathlib.Omega.{arith}
use lib.ListN.{length}
use Rattle.base.proofs.Tests.{by_test}
use Rattle.reading.specs.Reading.{limit}
use Rattle.host_answer.proofs.Fits.{Fits, count_fits, refusal_fits}
use Rattle.host_answer.specs.Answer.{answer_row}
use Rattle.log_reader.specs.Reader.{Placed}
use Rattle.log_reader.specs.declared.Place.TheVariants.{InPiece, InHeld}
use Rattle.log_reader.specs.declared.Answer.{Answer}
use Rattle.log_reader.specs.declared.Answer.TheVariants.{More, Entry, Refused}
use Rattle.log_reader.specs.Reader.{Ending}
use Rattle.log_reader.proofs.Reached.{taken_71}
use Rattle.host_log.specs.declared.Replied.{Replied}
use Rattle.host_log.specs.State.{is_state, places_in}
use Rattle.host_log.specs.Calls.{StateSteps, ending_row}
use Rattle.host_log.specs.Answer.{answer_of, answer_log}
use Rattle.host_log.proofs.States.{state_size, state_reader, places_count}

answer_fits : (piece p : List ℕ) (taken : ℕ) (a : Answer) → taken ≤ 71 → length p ≡ limit → Placed piece p taken a → Fits (answer_of taken a)
unfolding answer_of
answer_fits piece p taken More few full placed = omega arith
answer_fits piece p taken (Entry t (InPiece at n)) few full placed = omega (arith, placed.0)
answer_fits piece p taken (Entry t (InHeld n)) few full placed = omega (arith, placed.1)
answer_fits piece p taken (Refused r) few full placed = omega arith

pub log_fits : {before input after : List ℕ} {r : Replied} → StateSteps before input after r → Fits (answer_log r)
unfolding answer_of
log_fits {before} {input} {after} {r} call =
    by_test (is_state before)
    (λ t.
    let m = call.moves t in
    answer_fits input (places_in after) r.taken r.answer (taken_71 (state_reader before t) m.runs)
    (m.runs.same ∙ places_count before (state_size before t))
    m.runs.placed)
    (λ t. rw (call.refuses t).0 (omega arith))

pub ending_fits : (e : Ending) → Fits (answer_row (ending_row e))
unfolding ending_row
ending_fits (Ok tt) = count_fits 0 (omega arith)
ending_fits (Err r) = refusal_fits r
