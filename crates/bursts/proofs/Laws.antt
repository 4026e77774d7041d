-- What is written of a burst: the single frames' bytes, joined; they are read as exactly those frames, in order, with nothing left. Sets beyond the count
-- are not looked at, and a refused burst changes no byte.
-- Assumes nothing.
use Rattle.std.specs.Prelude.{Ok, Err}
use mathlib.Core.Path.{◌≡◌, refl, sym, ap, ◌∙◌}
use mathlib.Core.Bool.{true}
use mathlib.Core.List.{List, [], ◌∷◌, ◌++◌, map}
use mathlib.Core.Logic.{⊎_elim}
use Prim.Native.Nat.{ℕ, ◌+◌, ◌*◌, ◌≤◌, ◌<◌}
use native.Mathlib.Omega.{arith}
use borrow.Author.Tests.{le-ltb, ltb-false}
use lib.Dec.{lit≤}
use lib.ListN.{length, get_or, take, length-append, length-take}
use lib.Seq.{length-take-le, get_or-take, take_all}
use Rattle.base.proofs.Parts.{pasted_nil}
use Rattle.base.proofs.Tests.{by_test, below}
use Rattle.base.proofs.First.{before_first, none_found}
use Rattle.packets.specs.Listed.{listed}
use Rattle.reading.specs.Answer.{Frame}
use Rattle.reading.specs.Reading.{limit, reading, ◌⊕◌}
use Rattle.reading.specs.Frame.{AllValid, joined}
use Rattle.reading.proofs.Frame.{frames_read, only_frames}
use Rattle.refusals.specs.declared.Refusal.{Refusal}
use Rattle.writing.specs.Writing.{Image, bytes, wrote_row, written_row, write_of}
use Rattle.writing.proofs.Writing.{writes}
use Rattle.writing.proofs.Left.{no_bytes, same_bytes_lem, wrote_bytes, at_front, kept}
use Rattle.channels.specs.Channels.{channels_type, channels_count, channels_size, channel_bytes, first_above, channels_image}
use Rattle.channels.specs.Digits.{number}
use Rattle.channels.proofs.Digits.{length_digits}
use Rattle.frames.specs.Frames.{framed}
use Rattle.frames.proofs.Laws.{written_valid}
use Rattle.bursts.specs.Burst.{most_sets, frame_size, set_frame, set_frames, bad, first_bad, sets_image, burst_image, sixteens, values_image}
use Rattle.bursts.proofs.Images.{sets_refused, sets_bytes, address_refused, count_refused, counted}
use Rattle.bursts.proofs.Turns.{frames_long, joined_next, single}
use Rattle.bursts.proofs.Sixteens.{length_sixteens, take_sixteens, front_sixteens, values_address, values_count, values_short, values_sets}

-- ---- bytes of a burst: of these sets, to this address

pub record BurstOf (dest : ℕ) (sets : List (List ℕ)) (bs : List ℕ) : Type 0 where
  pub address : listed dest ≡ true
  pub few : length sets ≤ most_sets
  pub good : (k : ℕ) → k < length sets → channels_count ≤ first_above (get_or sets k [])
  pub is : bs ≡ joined (set_frames dest sets)

sets_of_bytes : (dest : ℕ) (sets : List (List ℕ)) (bs : List ℕ) → listed dest ≡ true → length sets ≤ most_sets → sets_image dest sets ≡ bytes bs → BurstOf dest sets bs
sets_of_bytes dest sets bs address few e =
    ⊎_elim
    (λ (some : first_bad sets < length sets). absurd (no_bytes (sets_refused dest sets some) e))
    (λ (none : length sets ≤ first_bad sets). record {
      address = address;
      few = few;
      good = λ k less. ltb-false (first_above (get_or sets k [])) channels_count (before_first bad [] sets k (omega (arith, none, less)));
      is = same_bytes_lem e (sets_bytes dest sets none);
    })
    (below (first_bad sets) (length sets))

pub burst_of : (dest : ℕ) (sets : List (List ℕ)) (count : ℕ) (bs : List ℕ) → burst_image dest sets count ≡ bytes bs → BurstOf dest (take count sets) bs
burst_of dest sets count bs e =
    by_test (listed dest)
    (λ address.
    ⊎_elim
    (λ (more : most_sets < count). absurd (no_bytes (count_refused dest sets count address more) e))
    (λ (few : count ≤ most_sets).
    sets_of_bytes dest (take count sets) bs address (omega (arith, length-take count sets, few)) (sym (counted dest sets count address few) ∙ e))
    (below most_sets count))
    (λ none. absurd (no_bytes (address_refused dest sets count none) e))

pub values_of : (dest : ℕ) (numbers : List ℕ) (count : ℕ) (bs : List ℕ) → values_image dest numbers count ≡ bytes bs → BurstOf dest (sixteens count numbers) bs
values_of dest numbers count bs e =
    by_test (listed dest)
    (λ address.
    ⊎_elim
    (λ (more : most_sets < count). absurd (no_bytes (values_count dest numbers count address more) e))
    (λ (few : count ≤ most_sets).
    ⊎_elim
    (λ (less : length numbers < count * channels_count). absurd (no_bytes (values_short dest numbers count address few less) e))
    (λ (enough : count * channels_count ≤ length numbers).
    sets_of_bytes dest (sixteens count numbers) bs address (omega (arith, length_sixteens count numbers)) (sym (values_sets dest numbers count address few enough) ∙ e))
    (below (length numbers) (count * channels_count)))
    (below most_sets count))
    (λ none. absurd (no_bytes (values_address dest numbers count none) e))

-- there are numbers for every set
pub values_enough : (dest : ℕ) (numbers : List ℕ) (count : ℕ) (bs : List ℕ) → values_image dest numbers count ≡ bytes bs → count * channels_count ≤ length numbers
values_enough dest numbers count bs e =
    let b = values_of dest numbers count bs e in
    ⊎_elim
    (λ (less : length numbers < count * channels_count).
    absurd (no_bytes (values_short dest numbers count b.address (omega (arith, b.few, length_sixteens count numbers)) less) e))
    (λ (enough : count * channels_count ≤ length numbers). enough)
    (below (length numbers) (count * channels_count))

-- ---- READ BACK

all_valid : (dest : ℕ) (sets : List (List ℕ)) → listed dest ≡ true → AllValid limit (set_frames dest sets)
all_valid dest [] address = tt
all_valid dest (set ∷ sets) address =
    let long : length (channel_bytes set) ≡ channels_size = length_digits 8 channels_size (number 11 set) in
    (written_valid dest channels_type (channel_bytes set) address (omega arith), all_valid dest sets address)

module _ {dest : ℕ} {sets : List (List ℕ)} {bs : List ℕ} (b : BurstOf dest sets bs) where
  -- 26 bytes for each set, so 208 at most
  pub burst_long : length bs ≡ length sets * frame_size
  burst_long = ap length b.is ∙ frames_long dest sets

  -- each is what a single write of its set writes
  pub burst_singles : (k : ℕ) → k < length sets
      → framed dest channels_type (channels_image (record { 0 = get_or sets k [] })) ≡ bytes (set_frame dest (get_or sets k []))
  burst_singles k less = single dest (get_or sets k []) b.address (b.good k less)

  -- the reading answers exactly the frames, in order, and then goes on with what stands behind them
  pub burst_reads : (more : List ℕ) → reading limit (bs ++ more) ≡ map Frame (set_frames dest sets) ⊕ reading limit more
  burst_reads more = ap (λ (l : List ℕ). reading limit (l ++ more)) b.is ∙ frames_read limit (set_frames dest sets) more (all_valid dest sets b.address)

  -- nothing is left
  pub burst_read : reading limit bs ≡ record { answers = map Frame (set_frames dest sets); tail = [] }
  burst_read = ap (reading limit) b.is ∙ only_frames limit (set_frames dest sets) (all_valid dest sets b.address)

-- so where a call says that it wrote n bytes, the first n of the buffer are read as the frames of the counted sets, and nothing is held
pub written_read : (dest : ℕ) (sets : List (List ℕ)) (count : ℕ) (buffer : List ℕ) (n : ℕ) {after : List ℕ}
    → (written_row (Ok n), after) ≡ write_of (burst_image dest sets count) buffer
    → reading limit (take n after) ≡ record { answers = map Frame (set_frames dest (take count sets)); tail = [] }
written_read dest sets count buffer n e =
    let w = wrote_bytes (burst_image dest sets count) buffer n e in
    ap (reading limit) (at_front w.written buffer n w.left_so) ∙ burst_read (burst_of dest sets count w.written w.is)

-- ---- BOTH FORMS ARE ONE

-- a burst of numbers is one of its sets
pub values_as_sets : (dest : ℕ) (numbers : List ℕ) (count : ℕ) → count * channels_count ≤ length numbers
    → values_image dest numbers count ≡ burst_image dest (sixteens count numbers) count
unfolding values_image burst_image
values_as_sets dest numbers count enough =
    rw (le-ltb (length numbers) (count * channels_count) enough, take_all count (sixteens count numbers) (omega (arith, length_sixteens count numbers)))

-- so is one of sets that stand one behind another in all the numbers there are
pub flat_burst : (dest : ℕ) (numbers : List ℕ) (sets : List (List ℕ)) (count : ℕ) → length numbers ≡ most_sets * channels_count → sixteens most_sets numbers ≡ sets
    → values_image dest numbers count ≡ burst_image dest sets count
flat_burst dest numbers sets count size is =
    by_test (listed dest)
    (λ address.
    ⊎_elim
    (λ (more : most_sets < count). values_count dest numbers count address more ∙ sym (count_refused dest sets count address more))
    (λ (few : count ≤ most_sets).
    values_sets dest numbers count address few (omega (arith, size, few))
    ∙ ap (sets_image dest) (sym (take_sixteens count most_sets numbers few) ∙ ap (take count) is)
    ∙ sym (counted dest sets count address few))
    (below most_sets count))
    (λ none. values_address dest numbers count none ∙ sym (address_refused dest sets count none))

-- ---- IN TURN

-- no set is no byte, whatever the buffer, by value and of a slice
pub burst_none : (dest : ℕ) (sets : List (List ℕ)) (buffer : List ℕ) → listed dest ≡ true → write_of (burst_image dest sets 0) buffer ≡ (wrote_row 0, buffer)
unfolding written_row
burst_none dest sets buffer address =
    ap (λ (image : Image). write_of image buffer) (counted dest sets 0 address (lit≤ tt) ∙ sets_bytes dest [] (omega arith))
    ∙ sym (writes [] buffer 0 refl (omega arith))
    ∙ ap (λ (l : List ℕ). (wrote_row 0, l)) (pasted_nil buffer 0)

pub values_none : (dest : ℕ) (numbers buffer : List ℕ) → listed dest ≡ true → write_of (values_image dest numbers 0) buffer ≡ (wrote_row 0, buffer)
values_none dest numbers buffer address =
    ap (λ (image : Image). write_of image buffer) (values_as_sets dest numbers 0 (omega arith)) ∙ burst_none dest (sixteens 0 numbers) buffer address

-- one set more is a single write more, behind the others
pub burst_next : (dest : ℕ) (sets : List (List ℕ)) (k : ℕ) (bs f : List ℕ) → k < length sets → k < 8 → burst_image dest sets k ≡ bytes bs
    → channels_count ≤ first_above (get_or sets k []) → framed dest channels_type (channels_image (record { 0 = get_or sets k [] })) ≡ bytes f
    → burst_image dest sets (k + 1) ≡ bytes (bs ++ f)
burst_next dest sets k bs f less room e good one =
    let b = burst_of dest sets k bs e in
    let more : List (List ℕ) = take (k + 1) sets in
    let long : length more ≡ k + 1 = length-take-le (k + 1) sets (omega arith) in
    let all : first_bad more ≡ length more =
    none_found bad [] more (λ i before.
    ap bad (get_or-take (k + 1) sets i [] (omega (arith, long, before)))
    ∙ ⊎_elim
    (λ (first : i < k).
    ap bad (sym (get_or-take k sets i [] first)) ∙ le-ltb _ channels_count (b.good i (omega (arith, first, length-take-le k sets (omega arith)))))
    (λ (last : k ≤ i).
    let is : i ≡ k = omega (arith, long, before, last) in
    ap (λ (j : ℕ). bad (get_or sets j [])) is ∙ le-ltb _ channels_count good)
    (below i k)) in
    counted dest sets (k + 1) b.address (omega arith) ∙ sets_bytes dest more (omega (arith, all))
    ∙ ap bytes (joined_next dest sets k less ∙ ap (λ (l : List ℕ). l ++ set_frame dest (get_or sets k [])) (sym b.is)
    ∙ ap (λ (l : List ℕ). bs ++ l) (same_bytes_lem (single dest (get_or sets k []) b.address good) one))

-- ---- WHAT IS NOT LOOKED AT

-- sets beyond the count
pub beyond : (dest : ℕ) (sets others : List (List ℕ)) (count : ℕ) → take count sets ≡ take count others → burst_image dest sets count ≡ burst_image dest others count
unfolding burst_image
beyond dest sets others count same = rw same

-- numbers beyond those of the counted sets
pub values_beyond : (dest : ℕ) (numbers more : List ℕ) (count : ℕ) → count * channels_count ≤ length numbers
    → values_image dest (numbers ++ more) count ≡ values_image dest numbers count
unfolding values_image
values_beyond dest numbers more count enough =
    rw (
      front_sixteens count numbers more enough,
      le-ltb (length numbers) (count * channels_count) enough,
      le-ltb (length (numbers ++ more)) (count * channels_count) (omega (arith, length-append numbers more)),
    )

-- ---- a refused burst changes no byte

pub refused_kept : (dest : ℕ) (sets : List (List ℕ)) (count : ℕ) (r : Refusal) {buffer after : List ℕ}
    → (written_row (Err r), after) ≡ write_of (burst_image dest sets count) buffer → after ≡ buffer
refused_kept dest sets count = kept (burst_image dest sets count)

pub values_kept : (dest : ℕ) (numbers : List ℕ) (count : ℕ) (r : Refusal) {buffer after : List ℕ}
    → (written_row (Err r), after) ≡ write_of (values_image dest numbers count) buffer → after ≡ buffer
values_kept dest numbers count = kept (values_image dest numbers count)
