-- What stands in a state is read again: the reader whose head was written.
-- Assumes nothing.
use mathlib.Core.Path.{◌≡◌, refl, sym, ap, ap₂, ◌∙◌}
use mathlib.Core.Bool.{true, and-eq-true_iff}
use mathlib.Core.List.{List}
use Prim.Native.Nat.{ℕ, ◌+◌, ◌≤◌, ◌<◌}
use native.Mathlib.Nat.{mod-eq_of_lt}
use native.Mathlib.Omega.{arith}
use borrow.Author.Tests.{eqb-true, eq-eqb}
use lib.Dec.{eqb, leb}
use lib.ListN.{length, take, length-append}
use lib.Seq.{take_at}
use Rattle.base.proofs.Tests.{by_test}
use Rattle.refusals.specs.Row.{number_of}
use Rattle.refusals.specs.declared.Refusal.{Refusal}
use Rattle.numbers.specs.BigEndian as be
use Rattle.reading.specs.Reading.{limit}
use Rattle.kit_log.specs.Entry.{greatest}
use Rattle.kit_log.specs.Room.{Small}
use Rattle.kit_log.proofs.Weights.{weight_low}
use Rattle.log_reader.specs.State as reader
use Rattle.log_reader.specs.State.{weight_of, of_logs}
use Rattle.log_reader.specs.Seen.{held_by}
use Rattle.log_reader.specs.declared.Wanted.{Wanted}
use Rattle.log_reader.specs.declared.Wanted.TheVariants.{Version, Seconds, Size}
use Rattle.log_reader.specs.declared.Reader.{Reader}
use Rattle.log_reader.specs.declared.Reader.TheVariants.{Number, Frame, Refused, Ended}
use Rattle.log_reader.proofs.Readers.{few_groups, below_weight, state_room, state_refused}
use Rattle.log_reader.proofs.Readers.{nine, ten}
use Rattle.log_reader.proofs.FrameSteps.{begun}
use Rattle.log_reader.proofs.Turns.{number_state}
use Rattle.host_log.specs.State.{places_at, size, bytes_of, head_in, head_of, reader_of, reader_in, places_in, state_of, has_form, is_state}
use Rattle.host_log.proofs.Heads.{length_head, head_read}
use Rattle.host_log.proofs.States.{places_of}

-- the seconds of an entry that is begun
abbrev pub seconds_of : Reader → ℕ
seconds_of (Number Version v g) = 0
seconds_of (Number Seconds v g) = 0
seconds_of (Number (Size t) v g) = t
seconds_of (Frame t n k) = t
seconds_of (Refused r) = 0
seconds_of Ended = 0

pub small_seconds : (p : List ℕ) (r : Reader) → Small (reader.state_of p r) → seconds_of r ≤ greatest
small_seconds p (Number Version v g) s = omega arith
small_seconds p (Number Seconds v g) s = omega arith
small_seconds p (Number (Size t) v g) s = s
small_seconds p (Frame t n k) s = s
small_seconds p (Refused r) s = omega arith
small_seconds p Ended s = omega arith

pub seconds_small : (p : List ℕ) (r : Reader) → seconds_of r ≤ greatest → Small (reader.state_of p r)
seconds_small p (Number Version v g) s = tt
seconds_small p (Number Seconds v g) s = tt
seconds_small p (Number (Size t) v g) s = s
seconds_small p (Frame t n k) s = s
seconds_small p (Refused r) s = tt
seconds_small p Ended s = tt

-- ---- the refusals of a log, by their numbers

refused_again : (r : Refusal) → of_logs r ≡ true → reader_of (head_of (Refused r)) ≡ Refused r
unfolding of_logs
refused_again r e =
    by_test (eqb (number_of r) 9) (λ t. simp t (ap Refused (sym (nine r (eqb-true _ _ t)))))
    (λ t. simp t (ap Refused (sym (ten r (eqb-true (number_of r) 10 (simp t at e))))))

-- ---- the head of a reader that is a state

module _ (p : List ℕ) where
  head_again : (r : Reader) → reader.is_state p r ≡ true → reader_of (head_of r) ≡ r
  head_again (Number Version v g) s = refl
  head_again (Number Seconds v g) s = refl
  head_again (Number (Size t) v g) s = refl
  head_again (Frame t n k) s =
      let b = begun p t n k s in
      let few : n < 256 = omega (arith, b.high) in
      let less : k < 256 = omega (arith, b.short) in
      ap₂ (Frame t) (mod-eq_of_lt few) (mod-eq_of_lt less)
  head_again (Refused r) s = refused_again r (state_refused p (Refused r) (state_room p (Refused r) s) refl ∙ s)
  head_again Ended s = refl

  value_small : (wanted : Wanted) (v g : ℕ) → reader.is_state p (Number wanted v g) ≡ true → v < 4294967296
  value_small wanted v g s =
      let e = number_state p (Number wanted v g) 0 s refl in
      omega (arith, below_weight v g e, weight_low g (few_groups v g e))

  fields_small : (r : Reader) → reader.is_state p r ≡ true → seconds_of r ≤ greatest → ((head_of r).value < 4294967296) × ((head_of r).seconds < 4294967296)
  fields_small (Number Version v g) s t = (value_small Version v g s, omega arith)
  fields_small (Number Seconds v g) s t = (value_small Seconds v g s, omega arith)
  fields_small (Number (Size u) v g) s t = (value_small (Size u) v g s, omega arith)
  fields_small (Frame u n k) s t = (omega arith, omega arith)
  fields_small (Refused r) s t = (omega arith, omega arith)
  fields_small Ended s t = (omega arith, omega arith)

  pub reader_again : (r : Reader) → reader.is_state p r ≡ true → seconds_of r ≤ greatest → reader_in (state_of r p) ≡ r
  reader_again r s t =
      let few = fields_small r s t in
      ap reader_of (head_read (head_of r) p few.0 few.1) ∙ head_again r s

  -- what is held does not depend on the seconds
  pub held_again : (r : Reader) → reader.is_state p r ≡ true → held_by p (reader_in (state_of r p)) ≡ held_by p r
  unfolding head_in bytes_of be.bytes_of
  held_again (Number Version v g) s = refl
  held_again (Number Seconds v g) s = refl
  held_again (Number (Size t) v g) s = refl
  held_again (Frame t n k) s = let b = begun p t n k s in let less : k < 256 = omega (arith, b.short, b.high) in ap (λ (i : ℕ). take i p) (mod-eq_of_lt less)
  held_again (Refused r) s = by_test (eqb (number_of r) 9) (λ t. simp t) (λ t. simp t)
  held_again Ended s = refl

  pub head_written : (r : Reader) → take places_at (state_of r p) ≡ bytes_of (head_of r)
  head_written r = take_at (bytes_of (head_of r)) p places_at (length_head (head_of r))

  stage_low : (r : Reader) → leb (head_of r).stage 6 ≡ true
  stage_low (Number Version v g) = refl
  stage_low (Number Seconds v g) = refl
  stage_low (Number (Size t) v g) = refl
  stage_low (Frame t n k) = refl
  stage_low (Refused r) = by_test (eqb (number_of r) 9) (λ t. simp t) (λ t. simp t)
  stage_low Ended = refl

  -- a reader that is a state makes a state of the host's
  pub state_again : (r : Reader) → length p ≡ limit → reader.is_state p r ≡ true → seconds_of r ≤ greatest → is_state (state_of r p) ≡ true
  unfolding is_state has_form bytes_of
  state_again r full s t =
      let long : length (state_of r p) ≡ size = length-append (bytes_of (head_of r)) p ∙ ap₂ ◌+◌ (length_head (head_of r)) full in
      (and-eq-true_iff (has_form (state_of r p)) (reader.is_state (places_in (state_of r p)) (reader_in (state_of r p)))).1 (
        (and-eq-true_iff (eqb (length (state_of r p)) size) (leb (head_of r).stage 6)).1 (eq-eqb (length (state_of r p)) size long, stage_low r),
        ap₂ reader.is_state (places_of (head_of r) p) (reader_again r s t) ∙ s,
      )
