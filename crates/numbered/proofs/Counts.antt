-- What a call dropped is what was held and taken, less what is held: so the code counts it, and so the position moves.
-- Assumes nothing.
use mathlib.Core.Path.{◌≡◌, sym, ap, ◌∙◌}
use mathlib.Core.Bool.{true}
use mathlib.Core.List.{List}
use Prim.Native.Nat.{ℕ, ◌+◌, ◌-◌, ◌≤◌}
use native.Mathlib.Omega.{arith}
use lib.ListN.{length}
use Rattle.reading.specs.Call.{dropped_by, call}
use Rattle.reading.specs.History.{answered}
use Rattle.reading.specs.Positions.{greatest, behind}
use Rattle.reading.proofs.Call.{each_counted, call_takes}
use Rattle.reading.proofs.Positions.{behind_call}
use Rattle.stream.specs.Places.{held_in}
use Rattle.stream.specs.Step.{is_span, Moves}
use Rattle.stream.specs.declared.step.Moved.{Moved}
use Rattle.stream.proofs.Held.{length_held}
use Rattle.stream.proofs.Spans.{span_bounds}
use Rattle.stream.proofs.Replies.{taken_is, held_is}

-- that no sum of the code has too little room, and no difference too little to take from
pub record Sums (p start end : ℕ) (r : Moved) : Type 0 where
  pub ordered : r.start ≤ r.end
  pub taken_fits : (end - start) + r.taken ≤ greatest
  pub dropped_some : r.end - r.start ≤ (end - start) + r.taken
  pub position_fits : p + ((end - start) + r.taken - (r.end - r.start)) ≤ greatest

module _ {m : ℕ} {before : List ℕ} {start end : ℕ} {input after : List ℕ} {r : Moved} (full : length before ≡ m) (kept : length after ≡ length before)
    (good : is_span m start end ≡ true) (moved : Moves m before start end input after r) where
  abbrev held : List ℕ
  held = held_in before start end

  counted : (r.end - r.start) + dropped_by (call m held input).answer ≡ (end - start) + r.taken
  counted =
      let b = (span_bounds m start end good).1 in
      let was_held : length held ≡ end - start = length_held before start end b.0 (omega (arith, b.1)) in
      let now_held : length (call m held input).held ≡ r.end - r.start =
      ap length (sym (held_is moved)) ∙ length_held after r.start r.end moved.ordered (omega (arith, moved.inside)) in
      omega (arith, was_held, now_held, each_counted m held input, taken_is moved)

  pub sums : (p : ℕ) → p + (end - start) + length input ≤ greatest → Sums p start end r
  sums p room =
      let taken : r.taken ≤ length input = rw (taken_is moved) (call_takes m held input) in
      record {
        ordered = moved.ordered;
        taken_fits = omega arith;
        dropped_some = omega (arith, counted);
        position_fits = omega arith;
      }

  -- the position that the code comes to
  pub position_is : (p : ℕ) → p + ((end - start) + r.taken - (r.end - r.start)) ≡ behind p (answered (call m held input).answer)
  position_is p =
      let f = (call m held input).answer in
      let dropped : (end - start) + r.taken - (r.end - r.start) ≡ dropped_by f = omega (arith, counted) in
      ap (λ (k : ℕ). p + k) dropped ∙ sym (behind_call p f)
