-- A number in a log: what the reader makes of it is what reading the number says.
-- Assumes nothing.
use mathlib.Core.Path.{◌≡◌, refl, ap, ◌∙◌}
use mathlib.Core.List.{List, [], ◌∷◌, ◌++◌}
use Prim.Native.Nat.{ℕ, suc, ◌-◌, ◌≤◌}
use native.Mathlib.Omega.{arith}
use lib.ListN.{length, length-append}
use Rattle.groups.specs.Groups.{groups}
use Rattle.groups.specs.declared.Step.{Step}
use Rattle.groups.specs.declared.Step.TheVariants.{GoesOn, Done, Malformed}
use Rattle.groups.specs.Reading.{step, NumberRead, unfinished, ends, malformed, run, read}
use Rattle.groups.proofs.Reading.{run_on, run_done, run_bad, written_reads}
use Rattle.refusals.specs.declared.Refusal.TheVariants.{InvalidLog}
use Rattle.kit_log.specs.Entry.{greatest}
use Rattle.kit_log.specs.Reading.{Want, number, refused, meaning, feed_number, feed, takes, after, answered, Reading, before, read_from}
use Rattle.kit_log.proofs.Reading.{reading_is, before_before, stays_refused}

-- what stands behind the number
abbrev pub left : NumberRead → List ℕ
left (unfinished v w) = []
left (ends n t) = t
left (malformed t) = t

-- what the reader makes of it
abbrev pub outcome : Want → List ℕ → NumberRead → Reading
outcome want s (unfinished v w) = record { entries = []; state = number want v w; taken = length s }
outcome want s (ends n t) = before [] (length s - length t) (read_from (meaning want n) t)
outcome want s (malformed t) = record { entries = []; state = refused InvalidLog; taken = length s - length t }

one_byte : (want : Want) (b : ℕ) (s : List ℕ) (r : NumberRead) → length (left r) ≤ length s → before [] 1 (outcome want s r) ≡ outcome want (b ∷ s) r
one_byte want b s (unfinished v w) h = reading_is refl (omega arith)
one_byte want b s (ends n t) h =
    let r = read_from (meaning want n) t in
    before_before [] [] 1 (length s - length t) r ∙ ap (λ (k : ℕ). before [] k r) (omega arith)
one_byte want b s (malformed t) h = reading_is refl (omega arith)

module _ (want : Want) (v w b : ℕ) (s : List ℕ) where
  fed_on : (v' w' : ℕ) → step greatest v w b ≡ GoesOn v' w' → read_from (number want v w) (b ∷ s) ≡ before [] 1 (read_from (number want v' w') s)
  unfolding read_from feed takes after answered feed_number
  fed_on v' w' e = rw (e, feed_number)

  fed_done : (n : ℕ) → step greatest v w b ≡ Done n → read_from (number want v w) (b ∷ s) ≡ before [] 1 (read_from (meaning want n) s)
  unfolding read_from feed takes after answered feed_number
  fed_done n e = rw (e, feed_number)

  fed_bad : step greatest v w b ≡ Malformed → read_from (number want v w) (b ∷ s) ≡ before [] 1 (read_from (refused InvalidLog) s)
  unfolding read_from feed takes after answered feed_number
  fed_bad e = rw (e, feed_number)

abbrev Told : Want → ℕ → ℕ → List ℕ → Type 0
Told want v w s =
    (length (left (run greatest v w s)) ≤ length s) × (read_from (number want v w) s ≡ outcome want s (run greatest v w s))

pub number_reads : (want : Want) (v w : ℕ) (s : List ℕ) → Told want v w s
unfolding run read_from
number_reads want v w [] = (omega arith, refl)
number_reads want v w (b ∷ s) = by (step greatest v w b) refl (λ v' w'. number_reads want v' w' s)
  where
    by : (x : Step) → step greatest v w b ≡ x → ((v' w' : ℕ) → Told want v' w' s) → Told want v w (b ∷ s)
    by (GoesOn v' w') e rest =
        let r = rest v' w' in
        rw (run_on greatest v w b s e) (
          omega (arith, r.0),
          fed_on want v w b s v' w' e ∙ ap (before [] 1) r.1 ∙ one_byte want b s (run greatest v' w' s) r.0,
        )
    by (Done n) e rest =
        let k : 1 ≡ suc (length s) - length s = omega arith in
        rw (run_done greatest v w b s e) (omega arith, fed_done want v w b s n e ∙ ap (λ (j : ℕ). before [] j (read_from (meaning want n) s)) k)
    by Malformed e rest =
        let k : 1 ≡ suc (length s) - length s = omega arith in
        rw (run_bad greatest v w b s e) (omega arith, fed_bad want v w b s e ∙ ap (before [] 1) (stays_refused InvalidLog s) ∙ reading_is refl k)

-- the three ends that a number has
module _ (want : Want) (s : List ℕ) where
  abbrev from : Reading
  from = read_from (number want 0 1) s

  pub inside : (v w : ℕ) → read greatest s ≡ unfinished v w → from ≡ record { entries = []; state = number want v w; taken = length s }
  inside v w e = (number_reads want 0 1 s).1 ∙ ap (outcome want s) e

  pub bad : (t : List ℕ) → read greatest s ≡ malformed t → from ≡ record { entries = []; state = refused InvalidLog; taken = length s - length t }
  bad t e = (number_reads want 0 1 s).1 ∙ ap (outcome want s) e

pub number_written : (want : Want) (n : ℕ) (t : List ℕ) → n ≤ greatest
    → read_from (number want 0 1) (groups n ++ t) ≡ before [] (length (groups n)) (read_from (meaning want n) t)
number_written want n t small =
    let k : length (groups n ++ t) - length t ≡ length (groups n) = omega (arith, length-append (groups n) t) in
    (number_reads want 0 1 (groups n ++ t)).1
    ∙ ap (outcome want (groups n ++ t)) (written_reads greatest n t small)
    ∙ ap (λ (j : ℕ). before [] j (read_from (meaning want n) t)) k
