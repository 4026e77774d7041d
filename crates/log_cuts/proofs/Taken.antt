-- A call of the reader takes no more than there is of the piece, and a writer writes no more than there are places.
-- Assumes nothing.
use mathlib.Core.Path.{◌≡◌, ap}
use mathlib.Core.List.{List, []}
use Prim.Native.Nat.{ℕ, ◌≤◌}
use native.Mathlib.Omega.{arith}
use lib.ListN.{length}
use Rattle.std.specs.Prelude.{Ok, Err}
use Rattle.std.specs.Result.{result_unwrap_or}
use Rattle.base.proofs.Tests.{by_test}
use Rattle.writing.specs.Writing.{Written, Image, written_row, write_of}
use Rattle.writing.proofs.Left.{wrote_bytes}
use Rattle.kit_log.specs.Call.{Call}
use Rattle.kit_log.proofs.History.{call_reads}
use Rattle.log_reader.specs.State.{state_of, is_state}
use Rattle.log_reader.specs.Reader.{Nexts}
use Rattle.log_reader.specs.declared.Reader.{Reader}
use Rattle.log_reader.specs.declared.Answered.{Answered}

pub takes_within : {before input after : List ℕ} {st : Reader} {r : Answered} → Nexts before st input after r → r.taken ≤ length input
takes_within {before} {input} {st = st} {r} n =
    by_test (is_state before st)
    (λ is.
    let taken : r.taken ≡ _ = ap (λ (c : Call). c.taken) (n.runs is).shown in
    omega (arith, (call_reads (state_of before st) input []).0))
    (λ isn't.
    let taken : r.taken ≡ 0 = ap (λ (a : Answered). a.taken) (n.refuses isn't).0 in
    omega arith)

pub writes_within : (image : Image) (buffer : List ℕ) {after : List ℕ} (w : Written) → (written_row w, after) ≡ write_of image buffer
    → result_unwrap_or w 0 ≤ length buffer
writes_within image buffer (Ok n) e =
    let left = (wrote_bytes image buffer n e).left_so in
    omega (arith, left.count, left.room)
writes_within image buffer (Err r) e = omega arith
