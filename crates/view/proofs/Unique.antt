-- Each public function's promise leaves one answer. Assumes nothing.
use mathlib.Core.Path.{◌≡◌, sym, ap, ◌∙◌}
use mathlib.Core.List.{List}
use Prim.Native.Nat.{ℕ}
use lib.ListN.{get_or}
use Rattle.base.proofs.Unique.{OneAnswer, same}
use Rattle.refusals.proofs.Rows.{one_refusal, not_zero}
use Rattle.view.specs.View.{raw_row}
use Rattle.view.specs.declared.RawView.{RawView}
use Rattle.refusals.specs.declared.Refusal.{Refusal}
use Rattle.std.specs.Prelude.{Result, Ok, Err}
use Rattle.view.proofs.frame.Reads as frame
use Rattle.view.proofs.raw_view.Reads as raw-view
use Rattle.view.proofs.payload.Reads as payload

pub frame_one : OneAnswer {Seen = List ℕ} frame.Post (λ κs r s. r.now)
frame_one κs a r r' s s' = same

-- a raw view is known by its row
by_row : (v w : Result RawView Refusal) → raw_row v ≡ raw_row w → v ≡ w
unfolding raw_row
by_row (Ok v) (Ok w) e = ap (λ (row : List ℕ). Ok (record { address = get_or row 1 0; kind = get_or row 2 0; check = get_or row 3 0 })) e
by_row (Ok v) (Err s) e = absurd (not_zero s (sym e))
by_row (Err r) (Ok w) e = absurd (not_zero r e)
by_row (Err r) (Err s) e = ap Err (one_refusal e)

pub raw_view_one : OneAnswer {Seen = Result RawView Refusal} raw-view.Post (λ κs r s. r)
raw_view_one κs a r r' s s' p q = by_row r r' (p ∙ sym q)

pub payload_one : OneAnswer {Seen = List ℕ} payload.Post (λ κs r s. r.now)
payload_one κs a r r' s s' = same
