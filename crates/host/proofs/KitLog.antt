-- What the log's entries answer fits its bytes.
-- Assumes nothing.
use mathlib.Core.Path.{◌≡◌, refl, ap, ◌∙◌}
use mathlib.Core.Bool.{true, false}
use mathlib.Core.List.{List, []}
use Prim.Native.Nat.{ℕ, ◌≤◌, ◌<◌}
use native.Mathlib.Omega.{arith}
use lib.ListN.{length}
use Rattle.base.proofs.Tests.{by_test}
use Rattle.writing.specs.Writing.{write_of}
use Rattle.kit_log.specs.Entry.{greatest}
use Rattle.kit_log.proofs.Laws.{empty_log}
use Rattle.log_writer.specs.Writer.{start_image, is_frame, entry_image}
use Rattle.log_writer.proofs.Frames.{frame_decided}
use Rattle.log_writer.proofs.Laws.{entry_size}
use Rattle.host_answer.specs.Answer.{packed, answer_row, answers}
use Rattle.host_answer.proofs.Fits.{Fits, Short, write_fits}

-- an answer whose row is not cut to bytes
pub row_answered : {row after : List ℕ} {x : List ℕ × List ℕ} {r : ℕ} → (row, after) ≡ x → r ≡ packed (answer_row row) → (r, after) ≡ answers x
row_answered {row} {after} e p = ap (λ (n : ℕ). (n, after)) p ∙ ap answers e

pub start_fits : (out : List ℕ) → Fits (answer_row (write_of start_image out).0)
start_fits out = write_fits start_image out (let one = ap length empty_log in omega arith)

entry_short : (seconds : ℕ) (c : List ℕ) → seconds ≤ greatest → Short (entry_image seconds c)
unfolding entry_image
entry_short seconds c small =
    by_test (is_frame c)
    (λ t. rw t (let size = entry_size (record { seconds = seconds; frame = c }) (record { small = small; valid = (frame_decided c).yes t }) in omega (arith, size.1)))
    (λ t. rw t tt)

pub entry_fits : (seconds : ℕ) (c out : List ℕ) → seconds ≤ greatest → Fits (answer_row (write_of (entry_image seconds c) out).0)
entry_fits seconds c out small = write_fits (entry_image seconds c) out (entry_short seconds c small)
