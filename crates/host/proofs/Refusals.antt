-- Every entry that refuses says the number of the one definition of refusals, and the low bytes of what that carries.
-- Assumes nothing.
use Rattle.std.specs.Prelude.{Err}
use mathlib.Core.Path.{◌≡◌, refl, sym, ap, ap₂, ◌∙◌}
use mathlib.Core.Bool.{true, false}
use mathlib.Core.List.{List, [], ◌∷◌}
use mathlib.Core.Logic.{⊎_elim}
use Prim.Native.Nat.{ℕ, ◌+◌, ◌*◌, ◌%◌, ◌≤◌, ◌<◌}
use native.Mathlib.Nat.{mod-eq_of_lt}
use native.Mathlib.Omega.{arith}
use lib.Dec.{lit<}
use lib.IntN.{ℤ}
use lib.ListN.{length}
use Rattle.base.proofs.Tests.{below}
use Rattle.packets.specs.Listed.{listed}
use Rattle.refusals.specs.Row.{row_of}
use Rattle.refusals.specs.declared.Refusal.{Refusal}
use Rattle.refusals.specs.declared.Refusal.TheVariants.{InvalidPayloadLength, BufferOverflow, ChannelRange, SetChannelRange, BadAddress, CapacityRange}
use Rattle.writing.specs.Writing.{Image, write_of}
use Rattle.writing.specs.Writing as writing
use Rattle.layout.specs.Decoded.{Decoded, refused}
use Rattle.records.specs.Battery.{too_large, battery_image}
use Rattle.records.specs.declared.battery.Battery.{Battery}
use Rattle.channels.specs.Channels.{first_above, channels_image}
use Rattle.channels.specs.declared.RcChannelsPacked.{RcChannelsPacked}
use Rattle.channels.proofs.Laws.{image_refused, image_bytes}
use Rattle.series.specs.Series.{Kind, Read, series_read, new_image}
use Rattle.series.proofs.ReadLaws.{read_too_short}
use Rattle.series.proofs.WriteLaws.{new_image_lem}
use Rattle.stream.specs.declared.step.Reply.TheVariants.{Refused}
use Rattle.frames.specs.Frames.{overhead, framed}
use Rattle.frames.proofs.Laws.{address_first, record_second, none_second, capacity_second, room_last}
use Rattle.bursts.specs.Burst.{sixteens, values_image}
use Rattle.bursts.proofs.Sixteens.{length_sixteens}
use Rattle.bursts.proofs.Order.{FirstAt, values_channel_third}
use Rattle.host_state.specs.Saving.{held_row_of, position_image, reset_state, state_image, restore_state}
use Rattle.host_answer.specs.Answer.{packed, answer_row, answers}
use Rattle.host_answer.specs.Reply.{answer_reply, Calls}
use Rattle.host_answer.specs.Seen.{unpacked}
use Rattle.host_answer.proofs.Fits.{call_fits}
use Rattle.host_answer.proofs.Rows.{not_success, row_refusal}
use Rattle.host_answer.proofs.Numbers.{refusal_bytes, refusal_bytes_lem, row_bytes}
use Rattle.host_records.specs.Read.{gives, by_row, gives_channels, answer_series, gives_series}
use Rattle.host.specs.Write.{writes}

module _ (r : Refusal) where
  -- ---- the state

  pub call_refuses : {before input out after outAfter : List ℕ} {n : ℕ} (c : Calls before input out after outAfter n) → c.answered.reply ≡ Refused r
      → unpacked 8 n ≡ refusal_bytes c.answered.taken r
  unfolding answer_reply
  call_refuses c e =
      let fits = simp e at (call_fits c.steps).0 in
      ap (unpacked 8) c.packs ∙ rw e (refusal_bytes_lem c.answered.taken r fits)

  pub position_refuses : (state out : List ℕ) → (write_of (position_image state) out).0 ≡ row_of r
      → unpacked 8 (answers (write_of (position_image state) out)).0 ≡ refusal_bytes 0 r
  position_refuses state out = row_bytes r refl

  pub reset_refuses : (state : List ℕ) → (reset_state state).0 ≡ row_of r → unpacked 8 (answers (reset_state state)).0 ≡ refusal_bytes 0 r
  reset_refuses state = row_bytes r refl

  pub save_refuses : (state out : List ℕ) → (write_of (state_image state) out).0 ≡ row_of r
      → unpacked 8 (answers (write_of (state_image state) out)).0 ≡ refusal_bytes 0 r
  save_refuses state out = row_bytes r refl

  pub restore_refuses : (form state : List ℕ) → (restore_state form state).0 ≡ row_of r → unpacked 8 (answers (restore_state form state)).0 ≡ refusal_bytes 0 r
  restore_refuses form state = row_bytes r refl

  pub held_refuses : (state : List ℕ) → held_row_of state ≡ row_of r → unpacked 8 (packed (answer_row (held_row_of state))) ≡ refusal_bytes 0 r
  held_refuses state = row_bytes r refl

  -- ---- writers

  pub write_refuses : (dest kind : ℕ) (image : Image) (buffer : List ℕ) → (write_of (framed dest kind image) buffer).0 ≡ row_of r
      → unpacked 8 (writes dest kind image buffer).0 ≡ refusal_bytes 0 r
  write_refuses dest kind image buffer = row_bytes r refl

  pub burst_refuses : (dest : ℕ) (numbers : List ℕ) (count : ℕ) (buffer : List ℕ) → (write_of (values_image dest numbers count) buffer).0 ≡ row_of r
      → unpacked 8 (answers (write_of (values_image dest numbers count) buffer)).0 ≡ refusal_bytes 0 r
  burst_refuses dest numbers count buffer = row_bytes r refl

  -- ---- readers

  pub read_refuses : {read : Decoded} (out : List ℤ) → read ≡ refused (row_of r) → unpacked 8 (gives read out).0 ≡ refusal_bytes 0 r
  unfolding gives
  read_refuses out e = rw e (row_bytes r refl refl)

  beside : {A : Type 0} {row : List ℕ} (whole : ℕ × List A) (out : List A) → row ≡ row_of r → unpacked 8 (by_row row whole out).0 ≡ refusal_bytes 0 r
  beside whole out e = rw e (simp (not_success r) (row_bytes r refl refl))

  pub channels_refuse : (read : List ℕ × RcChannelsPacked) (out : List ℕ) → read.0 ≡ row_of r → unpacked 8 (gives_channels read out).0 ≡ refusal_bytes 0 r
  unfolding gives_channels
  channels_refuse read out = beside _ out

  pub series_refuses : {A : Type 0} (k : Kind A) (payload : List ℕ) (out : List A) → (series_read k payload out).0 ≡ Err r
      → unpacked 8 (gives_series (series_read k payload out)).0 ≡ refusal_bytes 0 r
  series_refuses k payload out e = ap (λ (s : Read). unpacked 8 (packed (answer_series s))) e ∙ row_bytes r (sym (ap packed (row_refusal r))) refl

-- ---- a series without a whole value is refused with 4, into any slice; and the slice stays as it was

pub short_refuses :
    {A : Type 0} (k : Kind A) (payload : List ℕ) (out : List A) → 0 < k.width → length payload ≤ k.width
    → (unpacked 8 (gives_series (series_read k payload out)).0 ≡ refusal_bytes 0 InvalidPayloadLength)
    × ((gives_series (series_read k payload out)).1 ≡ out)
short_refuses {A} k payload out wide short =
    let said = read_too_short k payload out wide short in
    (series_refuses InvalidPayloadLength k payload out (ap (λ (x : Read × List A). x.0) said), ap (λ (x : Read × List A). x.1) said)

-- ---- the order in which a writer refuses: the address, the record, the room; the buffer stays as it was

module _ (dest kind : ℕ) (buffer : List ℕ) where
  abbrev Refuses : Image → Refusal → Type 0
  Refuses image r = (unpacked 8 (writes dest kind image buffer).0 ≡ refusal_bytes 0 r) × ((writes dest kind image buffer).1 ≡ buffer)

  as_written : (image : Image) (r : Refusal) → write_of (framed dest kind image) buffer ≡ (row_of r, buffer) → Refuses image r
  as_written image r e = (write_refuses r dest kind image buffer (ap (λ (x : List ℕ × List ℕ). x.0) e), ap (λ (x : List ℕ × List ℕ). x.1) e)

  pub refuses_address : (image : Image) → listed dest ≡ false → Refuses image BadAddress
  refuses_address image none = as_written image BadAddress (address_first dest kind buffer image none)

  pub refuses_record : (r : Refusal) → listed dest ≡ true → Refuses (writing.refused r) r
  refuses_record r address = as_written (writing.refused r) r (record_second dest kind buffer r address)

  -- a series of no values, in any buffer
  pub refuses_none : {A : Type 0} (k : Kind A) (id : ℕ) → listed dest ≡ true → Refuses (new_image k id []) InvalidPayloadLength
  refuses_none k id address =
      as_written (new_image k id []) InvalidPayloadLength
      (ap (λ (image : Image). write_of (framed dest kind image) buffer) (new_image_lem k id []) ∙ none_second dest kind buffer k id [] 0 (lit< tt) address)

  -- a battery whose capacity is too large, in any buffer: of the eight bytes the first is 11, and the others are 0
  pub refuses_capacity : (x : Battery) → too_large ≤ x.capacity_used → listed dest ≡ true
      → (unpacked 8 (writes dest kind (battery_image x) buffer).0 ≡ 11 ∷ 0 ∷ 0 ∷ 0 ∷ 0 ∷ 0 ∷ 0 ∷ 0 ∷ []) × ((writes dest kind (battery_image x) buffer).1 ≡ buffer)
  refuses_capacity x large address = as_written (battery_image x) CapacityRange (capacity_second dest kind buffer x large address)

  pub refuses_room : (payload : List ℕ) → listed dest ≡ true → length buffer < length payload + overhead → Refuses (writing.bytes payload) BufferOverflow
  refuses_room payload address less = as_written (writing.bytes payload) BufferOverflow (room_last dest kind buffer payload address less)

-- a burst, of numbers enough for its count: the first channel above 2047 is told by its set and its place there, whatever the buffer. The eight bytes are
-- 6, four of 0, the set, the place and 0
pub refuses_set_channel : (dest : ℕ) (numbers : List ℕ) (count : ℕ) (buffer : List ℕ) (k i : ℕ) → listed dest ≡ true → count ≤ 8
    → count * 16 ≤ length numbers → FirstAt (sixteens count numbers) k i
    → (unpacked 8 (answers (write_of (values_image dest numbers count) buffer)).0 ≡ 6 ∷ 0 ∷ 0 ∷ 0 ∷ 0 ∷ k ∷ i ∷ 0 ∷ [])
    × ((write_of (values_image dest numbers count) buffer).1 ≡ buffer)
refuses_set_channel dest numbers count buffer k i address few enough f =
    let said : write_of (values_image dest numbers count) buffer ≡ (row_of (SetChannelRange k i), buffer) =
    values_channel_third dest numbers count buffer address few enough k i f in
    let sets : length (sixteens count numbers) ≡ count = length_sixteens count numbers in
    let set_fits : k % 256 ≡ k = mod-eq_of_lt (omega (arith, f.set)) in
    let place_fits : i % 256 ≡ i = mod-eq_of_lt (omega (arith, f.channel)) in (
      burst_refuses (SetChannelRange k i) dest numbers count buffer (ap (λ (x : List ℕ × List ℕ). x.0) said)
          ∙ ap₂ (λ (x y : ℕ). 6 ∷ 0 ∷ 0 ∷ 0 ∷ 0 ∷ x ∷ y ∷ 0 ∷ []) set_fits place_fits,
      ap (λ (x : List ℕ × List ℕ). x.1) said,
    )

-- ---- what a byte has of a value

-- what a call of the stream carries are bytes by their type; a channel's place is below sixteen: the low byte is the place itself
pub channel_fits : (c : RcChannelsPacked) (i : ℕ) → channels_image c ≡ writing.refused (ChannelRange i) → i % 256 ≡ i
channel_fits c i e =
    ⊎_elim
    (λ (bad : first_above c.0 < 16). let image = image_refused c bad in let is : i ≡ first_above c.0 = cc in mod-eq_of_lt (omega arith))
    (λ (good : 16 ≤ first_above c.0). let image = image_bytes c good in let z : ◌≡◌ {A = ℕ} 0 1 = cc in absurd (omega arith))
    (below (first_above c.0) 16)
