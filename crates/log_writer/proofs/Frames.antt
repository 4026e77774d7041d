-- The writer's test of a frame decides `Valid` (RULES 4), and so it is what the code is answered.
-- Assumes nothing.
use mathlib.Core.Path.{◌≡◌, ap, ◌∙◌}
use mathlib.Core.Bool.{Bool, true, ◌&&◌, and-eq-true_iff}
use mathlib.Core.List.{List, [], ◌∷◌, ◌++◌, append-nil}
use Prim.Native.Nat.{ℕ, ◌≤◌}
use native.Mathlib.Omega.{arith}
use borrow.Author.Tests.{leb-true, le-leb}
use lib.Dec.{leb}
use lib.ListN.{length, length-append}
use Rattle.reading.specs.Reading.{limit}
use Rattle.reading.specs.Frame.{Valid}
use Rattle.reading.proofs.Frame.{valid_shape}
use Rattle.valid.specs.Valid.{Decides}
use Rattle.valid.proofs.Decisions.{one_decision}
use Rattle.kit_log.specs.Reading.{fine}
use Rattle.kit_log.specs.Strings.{Begins}
use Rattle.kit_log.proofs.Frames.{begins_fine, fine_begins}
use Rattle.log_writer.specs.Writer.{is_frame}

none : (r : List ℕ) → length r ≤ 0 → r ≡ []
none [] h = cc
none (x ∷ r) h = absurd (omega arith)

module _ (c : List ℕ) where
  -- what begins a valid frame of as many bytes is that frame
  all_of_it : Begins (length c) c → Valid limit c
  all_of_it b =
      let empty : b.rest ≡ [] = none b.rest (omega (arith, length-append c b.rest, b.long)) in
      let whole : c ++ b.rest ≡ c = ap (λ (r : List ℕ). c ++ r) empty ∙ append-nil c in
      rw whole at b.valid

  pub test_valid : is_frame c ≡ true → Valid limit c
  unfolding is_frame
  test_valid e =
      let all = (and-eq-true_iff (leb 4 (length c) && leb (length c) limit) (fine (length c) c)).0 e in
      let size = (and-eq-true_iff (leb 4 (length c)) (leb (length c) limit)).0 all.0 in
      let four : 4 ≤ length c = leb-true 4 (length c) size.0 in
      all_of_it (fine_begins (length c) c four (leb-true (length c) limit size.1) (omega arith) (omega arith) all.1)

  pub valid_test : Valid limit c → is_frame c ≡ true
  unfolding is_frame
  valid_test v =
      let shape = valid_shape limit c v in
      let whole : Begins (length c) c = record { rest = []; valid = rw append-nil v; long = ap length (append-nil c) } in
      simp (le-leb 4 (length c) shape.four, le-leb (length c) limit shape.most, begins_fine (length c) c (omega (arith, shape.four)) whole)

  pub frame_decided : Decides (Valid limit c) (is_frame c)
  frame_decided = record { yes = test_valid; no = valid_test }

  -- what the code is answered
  pub as_tested : {r : Bool} → Decides (Valid limit c) r → r ≡ is_frame c
  as_tested d = one_decision d frame_decided
