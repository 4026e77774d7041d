-- WHATEVER WAS WRITTEN of a burst is read back: as one frame for each counted set, in order, with nothing held, and of frame k the payload is read as set k.
-- Assumes nothing.
use Rattle.std.specs.Prelude.{Ok}
use mathlib.Core.Path.{◌≡◌, sym, ap, ◌∙◌}
use mathlib.Core.List.{List, [], map, append-nil}
use Prim.Native.Nat.{ℕ, ◌*◌, ◌<◌}
use native.Mathlib.Omega.{arith}
use lib.ListN.{length, get_or, take}
use Rattle.base.specs.Parts.{part}
use Rattle.base.proofs.Parts.{length_part}
use Rattle.reading.specs.Answer.{Frame}
use Rattle.reading.specs.Reading.{limit, reading}
use Rattle.writing.specs.Writing.{written_row, write_of}
use Rattle.writing.proofs.Left.{wrote_bytes, at_front}
use Rattle.view.specs.View.{payload_of}
use Rattle.layout.specs.Decoded.{record_row}
use Rattle.channels.specs.Channels.{channels_type, channels_count, channel_bytes, channels_read}
use Rattle.channels.proofs.Laws.{image_bytes, channels_read_written}
use Rattle.bursts.specs.Burst.{set_frame, set_frames, sixteens, values_image}
use Rattle.bursts.proofs.Sixteens.{length_sixteens, sixteens_at}
use Rattle.bursts.proofs.Laws.{BurstOf, values_of, values_enough, burst_read}
use Rattle.round_trips.proofs.Frames.{payload_framed}

-- of a burst's frames each is that of its set, where a set has sixteen channels
pub burst_fields : {dest : ℕ} {sets : List (List ℕ)} {bs : List ℕ} → BurstOf dest sets bs → (k : ℕ) → k < length sets → length (get_or sets k []) ≡ channels_count
    → channels_read (payload_of (set_frame dest (get_or sets k []))) ≡ (record_row, record { 0 = get_or sets k [] })
burst_fields {dest} {sets} b k less sixteen =
    let set = get_or sets k [] in
    let p = channel_bytes set in
    ap channels_read (payload_framed dest channels_type p ∙ sym (append-nil p))
    ∙ channels_read_written (record { 0 = set }) p [] sixteen (image_bytes (record { 0 = set }) (b.good k less))

-- a call over a slice of numbers that says that it wrote n bytes
pub burst_read_back : (dest : ℕ) (numbers : List ℕ) (count : ℕ) (buffer : List ℕ) (n : ℕ) {after : List ℕ}
    → (written_row (Ok n), after) ≡ write_of (values_image dest numbers count) buffer
    → reading limit (take n after) ≡ record { answers = map Frame (set_frames dest (sixteens count numbers)); tail = [] }
burst_read_back dest numbers count buffer n call =
    let w = wrote_bytes (values_image dest numbers count) buffer n call in
    ap (reading limit) (at_front w.written buffer n w.left_so) ∙ burst_read (values_of dest numbers count w.written w.is)

-- .. and frame k is that of the k-th sixteen numbers, and is read as these
pub burst_sets_back : (dest : ℕ) (numbers : List ℕ) (count : ℕ) (buffer : List ℕ) (n : ℕ) {after : List ℕ}
    → (written_row (Ok n), after) ≡ write_of (values_image dest numbers count) buffer → (k : ℕ) → k < count
    → channels_read (payload_of (set_frame dest (get_or (sixteens count numbers) k []))) ≡ (record_row, record { 0 = part numbers (k * 16) 16 })
burst_sets_back dest numbers count buffer n call k less =
    let w = wrote_bytes (values_image dest numbers count) buffer n call in
    let b = values_of dest numbers count w.written w.is in
    let enough = values_enough dest numbers count w.written w.is in
    let is = sixteens_at count numbers k less in
    burst_fields b k (omega (arith, less, length_sixteens count numbers)) (ap length is ∙ length_part numbers (k * 16) 16 (omega (arith, less, enough)))
    ∙ ap (λ (set : List ℕ). (record_row, record { 0 = set })) is
