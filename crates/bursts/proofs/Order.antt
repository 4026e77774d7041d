-- THE ORDER OF REFUSALS: the address (7), the count (4), the first channel that is too large (6, with its set and its place there), the room (5); the
-- buffer stays as it was.
-- Assumes nothing.
use Rattle.std.specs.Prelude.{Err}
use mathlib.Core.Path.{◌≡◌, refl, sym, ap, ◌∙◌}
use mathlib.Core.Bool.{true, false}
use mathlib.Core.List.{List, [], ◌∷◌}
use Prim.Native.Nat.{ℕ, ◌*◌, ◌≤◌, ◌<◌}
use native.Mathlib.Omega.{arith}
use borrow.Author.Tests.{le-ltb, lt-ltb}
use lib.Dec.{ltb}
use lib.ListN.{length, get_or, take}
use Rattle.base.proofs.First.{first_at, none_found}
use Rattle.packets.specs.Listed.{listed}
use Rattle.refusals.specs.Row.{row_of}
use Rattle.refusals.specs.declared.Refusal.{Refusal}
use Rattle.refusals.specs.declared.Refusal.TheVariants.{InvalidPayloadLength, BufferOverflow, SetChannelRange, BadAddress}
use Rattle.writing.specs.Writing.{Image, bytes, refused, written_row, write_of}
use Rattle.writing.proofs.Writing.{overflows, refuses}
use Rattle.channels.specs.Channels.{channels_count, greatest, first_above}
use Rattle.bursts.proofs.Sixteens.{values_address, values_count, values_short, values_sets}
use Rattle.bursts.specs.Burst.{bad, first_bad, sets_image, burst_image, sixteens, values_image}
use Rattle.bursts.proofs.Images.{address_refused, count_refused, counted, sets_refused}

-- the channels of one set: sixteen, each at most 2047
pub record InRange (set : List ℕ) : Type 0 where
  pub sixteen : length set ≡ 16
  pub each : (i : ℕ) → i < 16 → get_or set i 0 ≤ 2047

in_range_none : (set : List ℕ) → InRange set → first_above set ≡ channels_count
in_range_none set h = none_found (ltb greatest) 0 set (λ i less. le-ltb greatest (get_or set i 0) (h.each i (omega (arith, h.sixteen, less)))) ∙ h.sixteen

-- channel i of set k is the first one above 2047, set for set and channel for channel
pub record FirstAt (sets : List (List ℕ)) (k i : ℕ) : Type 0 where
  pub set : k < length sets
  pub channel : i < 16
  pub sixteen : length (get_or sets k []) ≡ 16
  pub above : 2047 < get_or (get_or sets k []) i 0
  pub before : (j : ℕ) → j < i → get_or (get_or sets k []) j 0 ≤ 2047
  pub sets_before : (j : ℕ) → j < k → InRange (get_or sets j [])

module _ (dest : ℕ) (sets : List (List ℕ)) (k i : ℕ) (f : FirstAt sets k i) where
  channel_is : first_above (get_or sets k []) ≡ i
  channel_is =
      let set = get_or sets k [] in
      first_at (ltb greatest) 0 set i (omega (arith, f.channel, f.sixteen)) (λ j less. le-ltb greatest (get_or set j 0) (f.before j less))
      (lt-ltb greatest (get_or set i 0) f.above)

  set_is : first_bad sets ≡ k
  set_is =
      first_at bad [] sets k f.set
      (λ j less. le-ltb (first_above (get_or sets j [])) channels_count (omega (arith, in_range_none (get_or sets j []) (f.sets_before j less))))
      (lt-ltb (first_above (get_or sets k [])) channels_count (omega (arith, channel_is, f.channel)))

  pub refuses_first : sets_image dest sets ≡ refused (SetChannelRange k i)
  refuses_first =
      sets_refused dest sets (omega (arith, set_is, f.set))
      ∙ ap (λ (j : ℕ). refused (SetChannelRange j (first_above (get_or sets j [])))) set_is
      ∙ ap (λ (j : ℕ). refused (SetChannelRange k j)) channel_is

so : {image answered : Image} (r : Refusal) (buffer : List ℕ) → image ≡ answered → (written_row (Err r), buffer) ≡ write_of answered buffer
    → write_of image buffer ≡ (row_of r, buffer)
unfolding written_row
so r buffer e w = ap (λ (image : Image). write_of image buffer) e ∙ sym w

-- ---- of sets by value

module _ (dest : ℕ) (sets : List (List ℕ)) (count : ℕ) (buffer : List ℕ) where
  pub address_first : listed dest ≡ false → write_of (burst_image dest sets count) buffer ≡ (7 ∷ [], buffer)
  address_first none = so BadAddress buffer (address_refused dest sets count none) (refuses BadAddress buffer)

  module _ (address : listed dest ≡ true) where
    pub count_second : 8 < count → write_of (burst_image dest sets count) buffer ≡ (4 ∷ [], buffer)
    count_second more = so InvalidPayloadLength buffer (count_refused dest sets count address more) (refuses InvalidPayloadLength buffer)

    pub channel_third : count ≤ 8 → (k i : ℕ) → FirstAt (take count sets) k i → write_of (burst_image dest sets count) buffer ≡ (6 ∷ k ∷ i ∷ [], buffer)
    channel_third few k i f =
        so (SetChannelRange k i) buffer (counted dest sets count address few ∙ refuses_first dest (take count sets) k i f) (refuses (SetChannelRange k i) buffer)

  pub room_last : (bs : List ℕ) → burst_image dest sets count ≡ bytes bs → length buffer < length bs → write_of (burst_image dest sets count) buffer ≡ (5 ∷ [], buffer)
  room_last bs e less = so BufferOverflow buffer e (overflows bs buffer (length bs) refl less)

-- ---- of numbers in a slice

module _ (dest : ℕ) (numbers : List ℕ) (count : ℕ) (buffer : List ℕ) where
  pub values_address_first : listed dest ≡ false → write_of (values_image dest numbers count) buffer ≡ (7 ∷ [], buffer)
  values_address_first none = so BadAddress buffer (values_address dest numbers count none) (refuses BadAddress buffer)

  module _ (address : listed dest ≡ true) where
    pub values_count_second : 8 < count → write_of (values_image dest numbers count) buffer ≡ (4 ∷ [], buffer)
    values_count_second more = so InvalidPayloadLength buffer (values_count dest numbers count address more) (refuses InvalidPayloadLength buffer)

    module _ (few : count ≤ 8) where
      pub numbers_second : length numbers < count * 16 → write_of (values_image dest numbers count) buffer ≡ (4 ∷ [], buffer)
      numbers_second less = so InvalidPayloadLength buffer (values_short dest numbers count address few less) (refuses InvalidPayloadLength buffer)

      pub values_channel_third : count * 16 ≤ length numbers → (k i : ℕ) → FirstAt (sixteens count numbers) k i
          → write_of (values_image dest numbers count) buffer ≡ (6 ∷ k ∷ i ∷ [], buffer)
      values_channel_third enough k i f =
          so (SetChannelRange k i) buffer (values_sets dest numbers count address few enough ∙ refuses_first dest (sixteens count numbers) k i f)
          (refuses (SetChannelRange k i) buffer)

  pub values_room_last : (bs : List ℕ) → values_image dest numbers count ≡ bytes bs → length buffer < length bs
      → write_of (values_image dest numbers count) buffer ≡ (5 ∷ [], buffer)
  values_room_last bs e less = so BufferOverflow buffer e (overflows bs buffer (length bs) refl less)
