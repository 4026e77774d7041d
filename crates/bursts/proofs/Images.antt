-- What there is to write of a burst, by what is refused first.
-- Assumes nothing.
use Rattle.std.specs.Prelude.{Option, Some, None}
use Rattle.std.specs.Option.{is_some}
use mathlib.Core.Path.{◌≡◌, sym, ap}
use mathlib.Core.Bool.{true, false, true≢false}
use mathlib.Core.List.{List, []}
use Prim.Native.Nat.{ℕ, ◌≤◌, ◌<◌}
use native.Mathlib.Omega.{arith}
use borrow.Author.Tests.{le-ltb, lt-ltb, ltb-true, ltb-false}
use lib.Dec.{ltb}
use lib.ListN.{length, get_or, take}
use Rattle.base.proofs.Tests.{by_test}
use Rattle.packets.specs.Listed.{listed}
use Rattle.reading.specs.Frame.{joined}
use Rattle.refusals.specs.declared.Refusal.TheVariants.{InvalidPayloadLength, BadAddress, SetChannelRange}
use Rattle.writing.specs.Writing.{bytes, refused}
use Rattle.channels.specs.Channels.{first_above, place_above}
use Rattle.bursts.specs.Burst.{most_sets, first_bad, set_bad, place_bad, set_frames, sets_image, burst_image}

module _ (dest : ℕ) (sets : List (List ℕ)) where
  pub sets_refused : first_bad sets < length sets → sets_image dest sets ≡ refused (SetChannelRange (first_bad sets) (first_above (get_or sets (first_bad sets) [])))
  unfolding sets_image
  sets_refused h = simp (lt-ltb (first_bad sets) (length sets) h)

  pub sets_bytes : length sets ≤ first_bad sets → sets_image dest sets ≡ bytes (joined (set_frames dest sets))
  unfolding sets_image
  sets_bytes h = simp (le-ltb (first_bad sets) (length sets) h)

  module _ (count : ℕ) where
    pub address_refused : listed dest ≡ false → burst_image dest sets count ≡ refused BadAddress
    unfolding burst_image
    address_refused none = simp none

    pub count_refused : listed dest ≡ true → most_sets < count → burst_image dest sets count ≡ refused InvalidPayloadLength
    unfolding burst_image
    count_refused address more = simp (address, lt-ltb most_sets count more)

    pub counted : listed dest ≡ true → count ≤ most_sets → burst_image dest sets count ≡ sets_image dest (take count sets)
    unfolding burst_image
    counted address few = simp (address, le-ltb most_sets count few)

abbrev pair_in : Option (ℕ × ℕ) → ℕ × ℕ
pair_in None = (0, 0)
pair_in (Some p) = p

-- the first bad set and its first bad channel, where both are known
module _ (sets : List (List ℕ)) where
  pub place_is_bad : (k i : ℕ) → k < length sets → first_bad sets ≡ k → first_above (get_or sets k []) ≡ i → Some (k, i) ≡ place_bad sets
  place_is_bad k i less set channel = rw (set, channel) (simp (lt-ltb k (length sets) less))

  pub none_is_bad : length sets ≤ first_bad sets → None ≡ place_bad sets
  none_is_bad none = simp (le-ltb (first_bad sets) (length sets) none)

  -- and what is known where they were found, or none was
  pub bad_found : {k i : ℕ} → place_bad sets ≡ Some (k, i) → (first_bad sets < length sets) × (first_bad sets ≡ k) × (first_above (get_or sets (first_bad sets) []) ≡ i)
  bad_found {k} {i} e =
      by_test (ltb (first_bad sets) (length sets))
      (λ t. let same = simp t at e in (ltb-true (first_bad sets) (length sets) t, ap (λ (o : Option (ℕ × ℕ)). (pair_in o).0) same, ap (λ (o : Option (ℕ × ℕ)). (pair_in o).1) same))
      (λ t. let none = simp t at e in let z : ◌≡◌ {A = ℕ} 0 1 = cc in absurd (omega arith))

  pub bad_none : place_bad sets ≡ None → length sets ≤ first_bad sets
  bad_none e =
      by_test (ltb (first_bad sets) (length sets))
      (λ t. let some = simp t at e in let z : ◌≡◌ {A = ℕ} 0 1 = cc in absurd (omega arith))
      (λ t. ltb-false (first_bad sets) (length sets) t)

-- the first bad set, by a test of each
pub has_above : (set : List ℕ) → is_some (place_above set) ≡ true → first_above set < length set
has_above set e =
    by_test (ltb (first_above set) (length set))
    (λ t. ltb-true (first_above set) (length set) t)
    (λ t. let none = simp t at e in absurd (true≢false (sym none)))

pub has_none : (set : List ℕ) → is_some (place_above set) ≡ false → length set ≤ first_above set
has_none set e =
    by_test (ltb (first_above set) (length set))
    (λ t. let some = simp t at e in absurd (true≢false some))
    (λ t. ltb-false (first_above set) (length set) t)

abbrev in_some : Option ℕ → ℕ
in_some None = 0
in_some (Some k) = k

module _ (sets : List (List ℕ)) where
  pub set_is_bad : (k : ℕ) → k < length sets → first_bad sets ≡ k → Some k ≡ set_bad sets
  set_is_bad k less set = rw set (simp (lt-ltb k (length sets) less))

  pub no_set_bad : length sets ≤ first_bad sets → None ≡ set_bad sets
  no_set_bad none = simp (le-ltb (first_bad sets) (length sets) none)

  pub set_found : {k : ℕ} → set_bad sets ≡ Some k → (first_bad sets < length sets) × (first_bad sets ≡ k)
  set_found {k} e =
      by_test (ltb (first_bad sets) (length sets))
      (λ t. let same = simp t at e in (ltb-true (first_bad sets) (length sets) t, ap in_some same))
      (λ t. let none = simp t at e in let z : ◌≡◌ {A = ℕ} 0 1 = cc in absurd (omega arith))

  pub set_none : set_bad sets ≡ None → length sets ≤ first_bad sets
  set_none e =
      by_test (ltb (first_bad sets) (length sets))
      (λ t. let some = simp t at e in let z : ◌≡◌ {A = ℕ} 0 1 = cc in absurd (omega arith))
      (λ t. ltb-false (first_bad sets) (length sets) t)
