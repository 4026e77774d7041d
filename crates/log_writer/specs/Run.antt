-- A log as it is written: a start at the front of a buffer, and then entries, each put into the places behind the one before (RULES 16.11).
-- Assumes nothing.
use Rattle.std.specs.Prelude.{◌≡◌, List, [], ◌∷◌, ◌++◌, ℕ, ◌+◌, ◌≤◌, take, drop, Ok, Err}
use Rattle.refusals.specs.declared.Refusal.{Refusal}
use Rattle.writing.specs.Writing.{written_row, write_of}
use Rattle.kit_log.specs.Entry.{Entry, greatest}
use Rattle.log_writer.specs.Writer.{start_image, entry_image}

-- `Run buffer es at now`: of the buffer as it was, calls have made `now`; they wrote these entries, in `at` bytes. A call's `after` is what it left of
-- the places that it was lent, those from `at` on
pub data Run (buffer : List ℕ) : List Entry → ℕ → List ℕ → Type 0 where
  start : (n : ℕ) {after : List ℕ} → (written_row (Ok n), after) ≡ write_of start_image buffer → Run buffer [] n after
  entry : {es : List Entry} {at : ℕ} {now after : List ℕ} (e : Entry) (n : ℕ) → e.seconds ≤ greatest
      → Run buffer es at now
      → (written_row (Ok n), after) ≡ write_of (entry_image e.seconds e.frame) (drop at now)
      → Run buffer (es ++ e ∷ []) (at + n) (take at now ++ after)
  -- a call that is refused
  refused : {es : List Entry} {at : ℕ} {now after : List ℕ} (e : Entry) (r : Refusal)
      → Run buffer es at now
      → (written_row (Err r), after) ≡ write_of (entry_image e.seconds e.frame) (drop at now)
      → Run buffer es at (take at now ++ after)
