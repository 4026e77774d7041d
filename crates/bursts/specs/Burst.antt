-- A burst (RULES 17): the frames of up to eight sets of sixteen channels, one after another, all or nothing.
-- Assumes nothing.
use Rattle.std.specs.Prelude.{ℕ, zero, suc, ◌*◌, Bool, List, [], ◌∷◌, map, ltb, Option, Some, None, length, get_or, take, drop}
use Rattle.base.specs.Choice.{when◌then◌else◌}
use Rattle.base.specs.First.{first_where}
use Rattle.packets.specs.Listed.{listed}
use Rattle.reading.specs.Frame.{frame, joined}
use Rattle.refusals.specs.declared.Refusal.TheVariants.{InvalidPayloadLength, BadAddress, SetChannelRange}
use Rattle.writing.specs.Writing.{Image, bytes, refused}
use Rattle.channels.specs.Channels.{channels_type, channels_count, channel_bytes, first_above}

-- the most sets, and the bytes of each one's frame
abbrev pub most_sets : ℕ
most_sets = 8

abbrev pub frame_size : ℕ
frame_size = 26

-- the frame of one set, and those of several, each by itself
abbrev pub set_frame : ℕ → List ℕ → List ℕ
set_frame dest set = frame dest (channels_type ∷ channel_bytes set)

abbrev pub set_frames : ℕ → List (List ℕ) → List (List ℕ)
set_frames dest sets = map (set_frame dest) sets

-- a set that has a channel which is too large; the place of the first such set, and the count of sets where there is none
abbrev pub bad : List ℕ → Bool
bad set = ltb (first_above set) channels_count

abbrev pub first_bad : List (List ℕ) → ℕ
first_bad sets = first_where bad sets

-- .. or none
abbrev pub set_bad : List (List ℕ) → Option ℕ
set_bad sets = when ltb (first_bad sets) (length sets) then Some (first_bad sets) else None

-- .. with the place of its first such channel, or none
abbrev pub place_bad : List (List ℕ) → Option (ℕ × ℕ)
place_bad sets =
    when ltb (first_bad sets) (length sets) then Some (first_bad sets, first_above (get_or sets (first_bad sets) [])) else None

-- the first channel that is too large is refused, with its set and its place there; else the frames are joined
unfoldable pub sets_image : ℕ → List (List ℕ) → Image
sets_image dest sets =
    when ltb (first_bad sets) (length sets)
    then refused (SetChannelRange (first_bad sets) (first_above (get_or sets (first_bad sets) [])))
    else bytes (joined (set_frames dest sets))

-- the address is tested first, then the count. Of the sets those that are counted are all that is looked at
unfoldable pub burst_image : ℕ → List (List ℕ) → ℕ → Image
burst_image dest sets count =
    when listed dest then (when ltb most_sets count then refused InvalidPayloadLength else sets_image dest (take count sets)) else refused BadAddress

-- ---- The channels of a burst as one list of numbers, set behind set

-- the sets that are counted
unfoldable pub sixteens : ℕ → List ℕ → List (List ℕ)
sixteens zero numbers = []
sixteens (suc n) numbers = take channels_count numbers ∷ sixteens n (drop channels_count numbers)

-- too few numbers for them are refused as too many sets are; more are not looked at
unfoldable pub values_image : ℕ → List ℕ → ℕ → Image
values_image dest numbers count =
    when listed dest then
    (when ltb most_sets count then refused InvalidPayloadLength else
    when ltb (length numbers) (count * channels_count) then refused InvalidPayloadLength else sets_image dest (sixteens count numbers))
    else refused BadAddress
