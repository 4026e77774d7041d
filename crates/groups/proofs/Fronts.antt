-- What the loop over a string knows after each byte: the rest of the string, read on from there, is read as the whole.
-- Assumes nothing.
use Rattle.std.specs.Prelude.{Err}
use mathlib.Core.Path.{◌≡◌, refl, sym, ap, ◌∙◌}
use mathlib.Core.List.{List, ◌∷◌}
use Prim.Native.Nat.{ℕ, ◌+◌, ◌-◌, ◌≤◌, ◌<◌}
use native.Mathlib.Numerals.{add-one}
use native.Mathlib.Omega.{arith}
use borrow.Author.Tests.{lt-ltb}
use lib.ListN.{length, get_or, drop, length-drop, drop_of_length-le}
use lib.Seq.{drop-cons}
use Rattle.groups.specs.declared.Step.{Step}
use Rattle.groups.specs.declared.Step.TheVariants.{GoesOn, Done, Malformed}
use Rattle.groups.specs.declared.Fault.TheVariants as fault
use Rattle.groups.specs.Reading.{step, step_of, run, read, front_of, numbered}
use Rattle.groups.proofs.Reading.{run_on, run_done, run_bad, on_below}

-- after i bytes: the value and the weight so far
pub record Passed (g : ℕ) (s : List ℕ) (v w i : ℕ) : Type 0 where
  pub inside : i ≤ length s
  pub state : v < w
  pub so_far : run g v w (drop i s) ≡ read g s

pub none_passed : (g : ℕ) (s : List ℕ) → Passed g s 0 1 0
none_passed g s = record { inside = omega arith; state = omega arith; so_far = refl }

module _ {g : ℕ} {s : List ℕ} {v w i : ℕ} (p : Passed g s v w i) where
  -- the string ends inside the number
  pub front_unfinished : length s ≤ i → Err fault.Unfinished ≡ front_of (length s) (read g s)
  unfolding run front_of
  front_unfinished over = ap (front_of (length s)) (sym (ap (run g v w) (drop_of_length-le s over)) ∙ p.so_far)

  module _ {r : Step} (more : i < length s) (next : r ≡ step_of g v w (get_or s i 0)) where
    split : run g v w (get_or s i 0 ∷ drop (i + 1) s) ≡ read g s
    split = ap (run g v w) (sym (rw (add-one, drop-cons s i 0))) ∙ p.so_far

    is_step : {x : Step} → r ≡ x → step g v w (get_or s i 0) ≡ x
    is_step e = sym (simp (lt-ltb v w p.state) at next) ∙ e

    pub front_on : {v' w' : ℕ} → get_or s i 0 < 256 → r ≡ GoesOn v' w' → Passed g s v' w' (i + 1)
    front_on {v'} {w'} byte e =
        record {
          inside = omega arith;
          state = on_below g v w (get_or s i 0) v' w' p.state byte (is_step e);
          so_far = sym (run_on g v w (get_or s i 0) (drop (i + 1) s) (is_step e)) ∙ split;
        }

    pub front_number : {n : ℕ} → r ≡ Done n → numbered n (i + 1) ≡ front_of (length s) (read g s)
    unfolding front_of
    front_number {n} e =
        let size : i + 1 ≡ length s - length (drop (i + 1) s) = simp length-drop (omega arith) in
        ap (λ (k : ℕ). numbered n k) size ∙ ap (front_of (length s)) (sym (run_done g v w (get_or s i 0) (drop (i + 1) s) (is_step e)) ∙ split)

    pub front_malformed : r ≡ Malformed → Err fault.Malformed ≡ front_of (length s) (read g s)
    unfolding front_of
    front_malformed e = ap (front_of (length s)) (sym (run_bad g v w (get_or s i 0) (drop (i + 1) s) (is_step e)) ∙ split)
