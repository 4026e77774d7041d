-- Every string of 22 bytes is what one set of channels is written as, so reading after writing and writing after reading change nothing (RULES 10).
-- Assumes nothing.
use mathlib.Core.Path.{◌≡◌, refl, ap, ap₂, ◌∙◌, subst}
use mathlib.Core.List.{List, [], ◌∷◌, ◌++◌}
use mathlib.Core.Logic.{⊎_elim}
use Prim.Native.Nat.{ℕ, suc, ◌%◌, ◌^◌, ◌≤◌, ◌<◌}
use native.Mathlib.Nat.{mod-lt, mod-eq_of_lt}
use native.Mathlib.Omega.{arith}
use borrow.Author.Tests.{le-ltb, lt-ltb}
use lib.ListN.{length, get_or, length-append, get_or-map}
use lib.Pow.{pow_pos}
use lib.Seq.{take_at, take_all}
use Rattle.base.proofs.Tests.{below}
use Rattle.base.specs.Bytes.{Bytes}
use Rattle.refusals.specs.declared.Refusal.TheVariants.{ChannelRange}
use Rattle.writing.specs.Writing.{bytes, refused}
use Rattle.layout.specs.Decoded.{record_row}
use Rattle.channels.specs.Digits.{number, digits, Below}
use Rattle.channels.specs.Channels.{channels_count, channels_size, channels_of, channel_bytes, low_bits, channels_read, first_above, channels_image}
use Rattle.channels.specs.declared.RcChannelsPacked.{RcChannelsPacked}
use Rattle.channels.proofs.Digits.{there_and_back, length_digits, digits_below}
use Rattle.channels.proofs.FirstAbove.{none_above, not_above}

module _ (c : RcChannelsPacked) where
  pub image_refused : first_above c.0 < channels_count → channels_image c ≡ refused (ChannelRange (first_above c.0))
  unfolding channels_image
  image_refused h = simp (lt-ltb _ channels_count h)

  pub image_bytes : channels_count ≤ first_above c.0 → channels_image c ≡ bytes (channel_bytes c.0)
  unfolding channels_image
  image_bytes h = simp (le-ltb _ channels_count h)

  -- where there are bytes to write, they are those of channels in range
  known : (payload : List ℕ) → channels_image c ≡ bytes payload → (channels_count ≤ first_above c.0) × (channel_bytes c.0 ≡ payload)
  known payload e =
      ⊎_elim
      (λ (bad : first_above c.0 < channels_count). let no = image_refused bad in let z : ◌≡◌ {A = ℕ} 0 1 = cc in absurd (omega arith))
      (λ (good : channels_count ≤ first_above c.0). let these = image_bytes good in (good, cc))
      (below (first_above c.0) channels_count)

  pub channels_length : (payload : List ℕ) → channels_image c ≡ bytes payload → length payload ≡ channels_size
  channels_length payload e = rw (← (known payload e).1) (length_digits 8 channels_size (number 11 c.0))

-- what 11 bits have of a channel is below 2^11
pub low_below : (l : List ℕ) → Below 11 (low_bits l)
low_below l i = rw (get_or-map (λ (c : ℕ). c % 2 ^ 11) l i 0) (mod-lt (get_or l i 0) (pow_pos 11))

-- and is all of one up to 2047
pub low_same : (l : List ℕ) → Below 11 l → low_bits l ≡ l
low_same [] h = refl
low_same (c ∷ cs) h = ap₂ ◌∷◌ (mod-eq_of_lt (h 0)) (low_same cs (λ i. h (suc i)))

-- sets of channels and 22-byte strings are one to one
pub channels_back : (channels : List ℕ) → length channels ≡ channels_count → Below 11 channels → channels_of (channel_bytes channels) ≡ channels
channels_back cs n h = subst (λ (m : ℕ). digits 11 m (number 8 (channel_bytes cs)) ≡ cs) n (there_and_back 8 11 channels_size cs h (omega (arith, n)))

pub bytes_back : (payload : List ℕ) → length payload ≡ channels_size → Bytes payload → channel_bytes (channels_of payload) ≡ payload
bytes_back bs n h = subst (λ (m : ℕ). digits 8 m (number 11 (channels_of bs)) ≡ bs) n (there_and_back 11 8 channels_count bs h (omega (arith, n)))

-- channels up to 2047 are written
pub channels_image_lem :
    (c : RcChannelsPacked) → length c.0 ≡ channels_count → Below 11 c.0 → channels_image c ≡ bytes (channel_bytes c.0)
channels_image_lem c n h = image_bytes c (omega (arith, not_above c.0 h))

-- READING AFTER WRITING, whatever stands behind
pub channels_read_written :
    (c : RcChannelsPacked) (payload after : List ℕ) → length c.0 ≡ channels_count → channels_image c ≡ bytes payload
    → channels_read (payload ++ after) ≡ (record_row, c)
unfolding channels_read
channels_read_written c payload after n e =
    let long : length payload ≡ channels_size = channels_length c payload e in
    let good : channels_count ≤ first_above c.0 = (known c payload e).0 in
    let back : channels_of payload ≡ c.0 =
    rw (← (known c payload e).1) (channels_back c.0 n (none_above c.0 (omega (arith, n)))) in
    rw (le-ltb (length (payload ++ after)) channels_size (omega (arith, length-append payload after)), take_at payload after channels_size long)
    (ap (λ (l : List ℕ). (record_row, record { 0 = l })) back)

-- WRITING AFTER READING: every 22-byte string is written again
pub channels_written_read :
    (payload : List ℕ) → length payload ≡ channels_size → Bytes payload → channels_image (channels_read payload).1 ≡ bytes payload
unfolding channels_read
channels_written_read payload n byte =
    rw (le-ltb (length payload) channels_size (omega arith), take_all channels_size payload (omega arith))
    (channels_image_lem _ (length_digits 11 channels_count (number 8 payload)) (digits_below 11 channels_count (number 8 payload)) ∙ ap bytes (bytes_back payload n byte))
