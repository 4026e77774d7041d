-- One turn of the writer: the next frame, put right behind those before it.
-- Assumes nothing.
use mathlib.Core.Path.{◌≡◌, refl, sym, ap, ◌∙◌}
use mathlib.Core.Bool.{true}
use mathlib.Core.List.{List, [], ◌∷◌, ◌++◌, append-nil, append_assoc}
use Prim.Native.Nat.{ℕ, ◌+◌, ◌-◌, ◌*◌, ◌≤◌, ◌<◌}
use native.Mathlib.Nat.{zero-add, suc-mul}
use native.Mathlib.Numerals.{add-one}
use native.Mathlib.Omega.{arith}
use lib.ListN.{length, get_or, take, drop, length-append, length-drop}
use lib.Seq.{length-take-le, take-suc}
use Rattle.base.specs.Parts.{pasted, placed}
use Rattle.base.proofs.Parts.{pasted_append, length_pasted, placed_fits, cut_out, around, put_there}
use Rattle.packets.specs.Listed.{listed}
use Rattle.reading.specs.Frame.{joined}
use Rattle.writing.specs.Writing.{bytes}
use Rattle.channels.specs.Digits.{number}
use Rattle.channels.specs.Channels.{channels_type, channels_count, channels_size, channel_bytes, low_bits, first_above, channels_image}
use Rattle.channels.proofs.Digits.{length_digits}
use Rattle.channels.proofs.FirstAbove.{none_above}
use Rattle.channels.proofs.Laws.{image_bytes, low_same}
use Rattle.frames.specs.Frames.{framed, framed_body}
use Rattle.frames.proofs.Built.{frame_size_lem}
use Rattle.bursts.specs.Burst.{frame_size, set_frame, set_frames}

-- ---- sizes

pub frame_long : (dest : ℕ) (set : List ℕ) → length (set_frame dest set) ≡ frame_size
frame_long dest set = frame_size_lem (channel_bytes set) channels_size dest channels_type (length_digits 8 channels_size (number 11 set))

pub frames_long : (dest : ℕ) (sets : List (List ℕ)) → length (joined (set_frames dest sets)) ≡ length sets * frame_size
frames_long dest [] = refl
frames_long dest (set ∷ sets) =
    omega (arith, length-append (set_frame dest set) (joined (set_frames dest sets)), frame_long dest set, frames_long dest sets, suc-mul (length sets) frame_size)

-- ---- frames in turn

joined_more : (dest : ℕ) (sets more : List (List ℕ)) → joined (set_frames dest (sets ++ more)) ≡ joined (set_frames dest sets) ++ joined (set_frames dest more)
joined_more dest [] more = refl
joined_more dest (set ∷ sets) more =
    ap (λ (l : List ℕ). set_frame dest set ++ l) (joined_more dest sets more)
    ∙ sym (append_assoc (set_frame dest set) (joined (set_frames dest sets)) (joined (set_frames dest more)))

pub joined_next : (dest : ℕ) (sets : List (List ℕ)) (k : ℕ) → k < length sets
    → joined (set_frames dest (take (k + 1) sets)) ≡ joined (set_frames dest (take k sets)) ++ set_frame dest (get_or sets k [])
joined_next dest sets k h =
    ap (λ (n : ℕ). joined (set_frames dest (take n sets))) (add-one k)
    ∙ ap (λ (l : List (List ℕ)). joined (set_frames dest l)) (take-suc sets k [] h)
    ∙ joined_more dest (take k sets) (get_or sets k [] ∷ [])
    ∙ ap (λ (l : List ℕ). joined (set_frames dest (take k sets)) ++ l) (append-nil (set_frame dest (get_or sets k [])))

-- ---- a single write

-- what there is to write of one set whose channels are in range
pub single : (dest : ℕ) (set : List ℕ) → listed dest ≡ true → channels_count ≤ first_above set
    → framed dest channels_type (channels_image (record { 0 = set })) ≡ bytes (set_frame dest set)
unfolding framed framed_body
single dest set address good = rw (address, image_bytes (record { 0 = set }) good)

-- ---- a turn

-- the next frame is put at the front of what is left of the buffer
pub put_next : (dest : ℕ) (set buffer : List ℕ) (at : ℕ) {ys : List ℕ} → length set ≡ channels_count → channels_count ≤ first_above set
    → at + frame_size ≤ length buffer
    → ys ≡ placed (cut_out buffer at (length buffer)) 0 (set_frame dest (low_bits set))
    → around buffer at (length buffer) ys ≡ pasted buffer at (set_frame dest set)
put_next dest set buffer at {ys} sixteen good room e =
    let lent : List ℕ = cut_out buffer at (length buffer) in
    let places : length lent ≡ length buffer - at = length-take-le (length buffer - at) (drop at buffer) (omega (arith, length-drop at buffer)) in
    let size = frame_long dest set in
    ap (around buffer at (length buffer))
    (e ∙ ap (λ (l : List ℕ). placed lent 0 (set_frame dest l)) (low_same set (none_above set (omega (arith, sixteen, good))))
    ∙ placed_fits lent 0 (set_frame dest set) (omega (arith, places, size)))
    ∙ put_there buffer at (length buffer) (set_frame dest set) (omega (arith, places, size))

-- the frames of the first k sets, at the front of a buffer, and the next one behind them
module _ (dest : ℕ) (sets : List (List ℕ)) (buffer : List ℕ) where
  abbrev pub filled : ℕ → List ℕ
  filled k = pasted buffer 0 (joined (set_frames dest (take k sets)))

  first_long : (k : ℕ) → k ≤ length sets → length (joined (set_frames dest (take k sets))) ≡ k * frame_size
  first_long k h = frames_long dest (take k sets) ∙ ap (λ (n : ℕ). n * frame_size) (length-take-le k sets h)

  pub length_filled : (k : ℕ) → k ≤ length sets → k * frame_size ≤ length buffer → length (filled k) ≡ length buffer
  length_filled k h room = length_pasted buffer 0 (joined (set_frames dest (take k sets))) (omega (arith, first_long k h))

  pub fill_next : (k : ℕ) → k < length sets → k * frame_size ≤ length buffer
      → pasted (filled k) (k * frame_size) (set_frame dest (get_or sets k [])) ≡ filled (k + 1)
  fill_next k h room =
      ap (λ (at : ℕ). pasted (filled k) at (set_frame dest (get_or sets k []))) (sym (zero-add (k * frame_size)))
      ∙ pasted_append buffer 0 (k * frame_size) (joined (set_frames dest (take k sets))) (set_frame dest (get_or sets k [])) (first_long k (omega arith)) (omega arith)
      ∙ ap (pasted buffer 0) (sym (joined_next dest sets k h))
