-- Laws of sets that stand in one list of numbers; and what there is to write of them.
-- Assumes nothing.
use mathlib.Core.Path.{◌≡◌, refl, sym, ap, ap₂, ◌∙◌}
use mathlib.Core.Bool.{true, false}
use mathlib.Core.List.{List, [], ◌∷◌, ◌++◌, append_assoc}
use Prim.Native.Nat.{ℕ, zero, suc, ◌+◌, ◌*◌, ◌≤◌, ◌<◌}
use native.Mathlib.Nat.{le_of_suc-le-suc, not-suc-le-zero, zero-mul, suc-mul}
use native.Mathlib.Omega.{arith}
use borrow.Author.Tests.{le-ltb, lt-ltb}
use lib.ListN.{length, get_or, take, drop, length-drop, take-append-drop}
use lib.Seq.{drop-drop, length-take-le, take-append-le, drop-append-le, take_at, drop_at}
use Rattle.base.specs.Parts.{part, pasted}
use Rattle.packets.specs.Listed.{listed}
use Rattle.refusals.specs.declared.Refusal.TheVariants.{InvalidPayloadLength, BadAddress}
use Rattle.writing.specs.Writing.{refused}
use Rattle.channels.specs.Channels.{channels_count}
use Rattle.bursts.specs.Burst.{most_sets, sets_image, sixteens, values_image}

pub length_sixteens : (n : ℕ) (numbers : List ℕ) → length (sixteens n numbers) ≡ n
unfolding sixteens
length_sixteens zero numbers = refl
length_sixteens (suc n) numbers = ap suc (length_sixteens n (drop channels_count numbers))

-- set n is the sixteen numbers behind n sets
pub sixteens_next : (n : ℕ) (numbers : List ℕ) → sixteens (suc n) numbers ≡ sixteens n numbers ++ (part numbers (n * channels_count) channels_count ∷ [])
unfolding sixteens
sixteens_next zero numbers = ap (λ (at : ℕ). part numbers at channels_count ∷ []) (sym (zero-mul channels_count))
sixteens_next (suc n) numbers =
    let behind : channels_count + n * channels_count ≡ suc n * channels_count = omega (arith, suc-mul n channels_count) in
    ap (λ (l : List (List ℕ)). take channels_count numbers ∷ l)
    (sixteens_next n (drop channels_count numbers)
    ∙ ap (λ (l : List ℕ). sixteens n (drop channels_count numbers) ++ (take channels_count l ∷ []))
    (drop-drop (n * channels_count) channels_count numbers ∙ ap (λ (k : ℕ). drop k numbers) behind))

-- one by one
pub sixteens_at : (n : ℕ) (numbers : List ℕ) (k : ℕ) → k < n → get_or (sixteens n numbers) k [] ≡ part numbers (k * channels_count) channels_count
unfolding sixteens
sixteens_at zero numbers k h = absurd (not-suc-le-zero h)
sixteens_at (suc n) numbers zero h = ap (λ (at : ℕ). part numbers at channels_count) (sym (zero-mul channels_count))
sixteens_at (suc n) numbers (suc k) h =
    let behind : channels_count + k * channels_count ≡ suc k * channels_count = omega (arith, suc-mul k channels_count) in
    sixteens_at n (drop channels_count numbers) k (le_of_suc-le-suc h)
    ∙ ap (take channels_count) (drop-drop (k * channels_count) channels_count numbers ∙ ap (λ (at : ℕ). drop at numbers) behind)

-- fewer of them are the first ones
pub take_sixteens : (n m : ℕ) (numbers : List ℕ) → n ≤ m → take n (sixteens m numbers) ≡ sixteens n numbers
unfolding sixteens
take_sixteens zero m numbers h = refl
take_sixteens (suc n) zero numbers h = absurd (not-suc-le-zero h)
take_sixteens (suc n) (suc m) numbers h = ap (λ (l : List (List ℕ)). take channels_count numbers ∷ l) (take_sixteens n m (drop channels_count numbers) (le_of_suc-le-suc h))

-- what stands behind them is not looked at
pub front_sixteens : (n : ℕ) (numbers more : List ℕ) → n * channels_count ≤ length numbers → sixteens n (numbers ++ more) ≡ sixteens n numbers
unfolding sixteens
front_sixteens zero numbers more enough = refl
front_sixteens (suc n) numbers more enough =
    let first : channels_count ≤ length numbers = omega (arith, suc-mul n channels_count) in
    ap₂ (λ (x : List ℕ) (l : List (List ℕ)). x ∷ l) (take-append-le channels_count numbers more first)
    (ap (sixteens n) (drop-append-le channels_count numbers more first)
    ∙ front_sixteens n (drop channels_count numbers) more (omega (arith, suc-mul n channels_count, length-drop channels_count numbers)))

-- one more set put behind n of them
pub sixteens_put : (n : ℕ) (numbers set : List ℕ) → length set ≡ channels_count → n * channels_count + channels_count ≤ length numbers
    → sixteens (suc n) (pasted numbers (n * channels_count) set) ≡ sixteens n numbers ++ (set ∷ [])
unfolding pasted
sixteens_put n numbers set sixteen room =
    let at : ℕ = n * channels_count in
    let front : List ℕ = take at numbers in
    let rest : List ℕ = drop (at + length set) numbers in
    let whole : List ℕ = front ++ set ++ rest in
    let long : length front ≡ at = length-take-le at numbers (omega arith) in
    let apart : whole ≡ front ++ (set ++ rest) = append_assoc front set rest in
    sixteens_next n whole
    ∙ ap₂ (λ (l : List (List ℕ)) (x : List ℕ). l ++ (x ∷ []))
    (ap (sixteens n) apart ∙ front_sixteens n front (set ++ rest) (omega arith)
    ∙ sym (front_sixteens n front (drop at numbers) (omega arith)) ∙ ap (sixteens n) (take-append-drop at numbers))
    (ap (λ (l : List ℕ). part l at channels_count) apart ∙ ap (take channels_count) (drop_at front (set ++ rest) at long) ∙ take_at set rest channels_count sixteen)

module _ (dest : ℕ) (numbers : List ℕ) (count : ℕ) where
  pub values_address : listed dest ≡ false → values_image dest numbers count ≡ refused BadAddress
  unfolding values_image
  values_address none = simp none

  module _ (address : listed dest ≡ true) where
    pub values_count : most_sets < count → values_image dest numbers count ≡ refused InvalidPayloadLength
    unfolding values_image
    values_count more = simp (address, lt-ltb most_sets count more)

    module _ (few : count ≤ most_sets) where
      pub values_short : length numbers < count * channels_count → values_image dest numbers count ≡ refused InvalidPayloadLength
      unfolding values_image
      values_short less = simp (address, le-ltb most_sets count few, lt-ltb (length numbers) (count * channels_count) less)

      pub values_sets : count * channels_count ≤ length numbers → values_image dest numbers count ≡ sets_image dest (sixteens count numbers)
      unfolding values_image
      values_sets enough = simp (address, le-ltb most_sets count few, le-ltb (length numbers) (count * channels_count) enough)
