-- What is written is a valid frame, and its reading is that frame; and the order in which a writer refuses.
-- Assumes nothing.
use mathlib.Core.Path.{◌≡◌, refl, sym, ap, ◌∙◌}
use mathlib.Core.Bool.{true, false}
use mathlib.Core.List.{List, [], ◌∷◌, ◌++◌, append-nil}
use Prim.Native.Nat.{ℕ, ◌+◌, ◌≤◌, ◌<◌}
use native.Mathlib.Omega.{arith}
use lib.ListN.{length}
use Rattle.base.proofs.Tests.{by_test}
use Rattle.refusals.specs.Row.{row_of}
use Rattle.refusals.specs.declared.Refusal.{Refusal}
use Rattle.refusals.specs.declared.Refusal.TheVariants.{InvalidPayloadLength, BufferOverflow, BadAddress, CapacityRange}
use Rattle.writing.specs.Writing.{Image, bytes, refused, written_row, write_of}
use Rattle.writing.proofs.Writing.{refuses}
use Rattle.writing.proofs.Left.{no_bytes, same_bytes_lem}
use Rattle.packets.specs.Listed.{listed}
use Rattle.reading.specs.Answer.{Frame}
use Rattle.reading.specs.Reading.{limit, reading, ◌⊕◌}
use Rattle.reading.specs.Frame.{frame, Valid}
use Rattle.records.specs.Battery.{too_large, battery_image}
use Rattle.records.specs.declared.battery.Battery.{Battery}
use Rattle.records.proofs.BatteryLaws.{image_refused}
use Rattle.series.specs.Series.{Kind, series_image}
use Rattle.series.proofs.WriteLaws.{image_none}
use Rattle.frames.specs.Frames.{overhead, most_payload, framed, framed_body}
use Rattle.reading.proofs.Tests.{good_length_lem}
use Rattle.reading.proofs.Frame.{frame_valid, frames_read}
use Rattle.frames.proofs.Built.{short}

module _ (dest kind : ℕ) (payload : List ℕ) (address : listed dest ≡ true) (few : length payload ≤ most_payload) where
  pub written_valid : Valid limit (frame dest (kind ∷ payload))
  written_valid = frame_valid dest (kind ∷ payload) limit address (good_length_lem limit _ (omega arith) (omega arith))

  -- whatever stands behind it
  pub written_reads : (more : List ℕ)
      → reading limit (frame dest (kind ∷ payload) ++ more) ≡ (Frame (frame dest (kind ∷ payload)) ∷ []) ⊕ reading limit more
  written_reads more =
      ap (λ (s : List ℕ). reading limit (s ++ more)) (sym (append-nil (frame dest (kind ∷ payload))))
      ∙ frames_read limit (frame dest (kind ∷ payload) ∷ []) more (written_valid, tt)

-- whatever is written is the frame of a payload, to an address
pub record FrameOf (dest kind : ℕ) (image : Image) (f : List ℕ) : Type 0 where
  pub payload : List ℕ
  pub is : image ≡ bytes payload
  pub whole : f ≡ frame dest (kind ∷ payload)
  pub address : listed dest ≡ true

pub frame_of_lem : (dest kind : ℕ) (image : Image) (f : List ℕ) → framed dest kind image ≡ bytes f → FrameOf dest kind image f
unfolding framed framed_body
frame_of_lem dest kind (bytes p) f e =
    by_test (listed dest)
    (λ t. record { payload = p; is = refl; whole = same_bytes_lem (simp t at e) refl; address = t })
    (λ t. absurd (no_bytes refl (simp t at e)))
frame_of_lem dest kind (refused r) f e = by_test (listed dest) (λ t. absurd (no_bytes refl (simp t at e))) (λ t. absurd (no_bytes refl (simp t at e)))

-- ---- THE ORDER OF REFUSALS: the address (7), then the record's own (4, 6, 11), then the room (5); the buffer stays as it was

module _ (dest kind : ℕ) (b : List ℕ) where
  pub address_first : (image : Image) → listed dest ≡ false → write_of (framed dest kind image) b ≡ (row_of BadAddress, b)
  unfolding framed written_row
  address_first image none = rw none (sym (refuses BadAddress b))

  pub record_second : (r : Refusal) → listed dest ≡ true → write_of (framed dest kind (refused r)) b ≡ (row_of r, b)
  unfolding framed framed_body written_row
  record_second r address = rw address (sym (refuses r b))

  -- so a series without a value is refused with 4, in any buffer
  pub none_second : {A : Type 0} (k : Kind A) (id : ℕ) (vs : List A) (n : ℕ) → n < 1 → listed dest ≡ true
      → write_of (framed dest kind (series_image k id vs n)) b ≡ (row_of InvalidPayloadLength, b)
  none_second k id vs n none address =
      ap (λ (image : Image). write_of (framed dest kind image) b) (image_none k id vs n none) ∙ record_second InvalidPayloadLength address

  -- .. and a battery whose capacity is too large with 11
  pub capacity_second : (x : Battery) → too_large ≤ x.capacity_used → listed dest ≡ true
      → write_of (framed dest kind (battery_image x)) b ≡ (row_of CapacityRange, b)
  capacity_second x large address =
      ap (λ (image : Image). write_of (framed dest kind image) b) (image_refused x large) ∙ record_second CapacityRange address

  pub room_last : (payload : List ℕ) → listed dest ≡ true → length b < length payload + overhead
      → write_of (framed dest kind (bytes payload)) b ≡ (row_of BufferOverflow, b)
  unfolding framed written_row
  room_last payload address less = rw address (sym (short payload (length payload) dest kind refl b less))
