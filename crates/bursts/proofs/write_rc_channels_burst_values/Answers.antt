-- `bursts::write_rc_channels_burst_values` meets its contract: each test refuses what the image refuses there, and past them all the frames are written.
-- Assumes nothing.
use Rattle.std.specs.Prelude.{Ok, Err}
use mathlib.Core.Path.{◌≡◌, sym, ap, ap₂, ◌∙◌}
use mathlib.Core.Bool.{true}
use mathlib.Core.List.{List, []}
use Prim.Native.Nat.{ℕ, ◌*◌, ◌≤◌, ◌<◌}
use native.Mathlib.Omega.{arith}
use borrow.Author.Tests.{ltb-true, not-true, not-false}
use lib.ListN.{length, get_or}
use Rattle.base.proofs.First.{first_found}
use Rattle.base.proofs.Tests.{not_as}
use Rattle.packets.specs.Listed.{listed}
use Rattle.reading.specs.Frame.{joined}
use Rattle.refusals.specs.declared.Refusal.TheVariants.{SetChannelRange}
use Rattle.writing.specs.Writing.{bytes, written_row}
use Rattle.writing.proofs.Writing.{writes, overflows, refuses}
use Rattle.channels.specs.Channels.{channels_count, first_above}
use Rattle.bursts.specs.Burst.{frame_size, bad, first_bad, set_frames, sets_image, sixteens, values_image}
use Rattle.bursts.proofs.Images.{sets_refused, sets_bytes, bad_found, bad_none}
use Rattle.bursts.proofs.Sixteens.{length_sixteens, values_address, values_count, values_short, values_sets}
use Rattle.bursts.proofs.Turns.{frames_long}
use mathlib.Core.Bool.{not}
use Rattle.bursts.proofs.write_rc_channels_burst_values.Goals as goal

pub returns-then-not-is_address : goal.returns-then-not-is_address
returns-then-not-is_address c =
    let a = c.args in
    rw (values_address a.dest a.channels.now a.count (not-true (listed a.dest) (not_as c.is_address.ensures (ap not c.if-not-is_address.true))))
    (refuses _ a.buffer.now)

pub returns-then-count-gt-SETS : goal.returns-then-count-gt-SETS
returns-then-count-gt-SETS c =
    let address : listed c.args.dest ≡ true = not-false (listed c.args.dest) (not_as c.is_address.ensures (ap not c.if-not-is_address.false)) in
    let a = c.args in
    rw (values_count a.dest a.channels.now a.count address (omega arith)) (refuses _ a.buffer.now)

pub returns-then-channels-count : goal.returns-then-channels-count
returns-then-channels-count c =
    let address : listed c.args.dest ≡ true = not-false (listed c.args.dest) (not_as c.is_address.ensures (ap not c.if-not-is_address.false)) in
    let a = c.args in
    rw (values_short a.dest a.channels.now a.count address (omega arith) c.if-channels-count.true) (refuses _ a.buffer.now)

pub returns-then-buffer-size : goal.returns-then-buffer-size
returns-then-buffer-size c =
    let a = c.args in
    let sets : List (List ℕ) = sixteens a.count a.channels.now in
    let address : listed a.dest ≡ true = not-false (listed a.dest) (not_as c.is_address.ensures (ap not c.if-not-is_address.false)) in
    let all_there : length sets ≡ a.count = length_sixteens a.count a.channels.now in
    let good : length sets ≤ first_bad sets = bad_none sets (sym c.in_default.ensures) in
    let image : values_image a.dest a.channels.now a.count ≡ bytes (joined (set_frames a.dest sets)) =
    values_sets a.dest a.channels.now a.count address (omega (arith, c.if-count-gt-SETS.false)) c.if-channels-count.false ∙ sets_bytes a.dest sets good in
    let long : length (joined (set_frames a.dest sets)) ≡ a.count * frame_size = frames_long a.dest sets ∙ ap (λ (n : ℕ). n * frame_size) all_there in
    rw image (overflows _ a.buffer.now (a.count * frame_size) long c.if-buffer-size.true)

pub put_sets-requires : goal.put_sets-requires
put_sets-requires c =
    let sets : List (List ℕ) = sixteens c.args.count c.args.channels.now in
    let good : length sets ≤ first_bad sets = bad_none sets (sym c.in_default.ensures) in
    record { count_le_most_sets = (omega (arith, c.if-count-gt-SETS.false), c.if-channels-count.false); frame_size_in_bounds = (c.if-buffer-size.false, omega (arith, good, length_sixteens c.args.count c.args.channels.now)) }

pub returns : goal.returns
returns c =
    let a = c.args in
    let sets : List (List ℕ) = sixteens a.count a.channels.now in
    let address : listed a.dest ≡ true = not-false (listed a.dest) (not_as c.is_address.ensures (ap not c.if-not-is_address.false)) in
    let all_there : length sets ≡ a.count = length_sixteens a.count a.channels.now in
    let good : length sets ≤ first_bad sets = bad_none sets (sym c.in_default.ensures) in
    let image : values_image a.dest a.channels.now a.count ≡ bytes (joined (set_frames a.dest sets)) =
    values_sets a.dest a.channels.now a.count address (omega (arith, c.if-count-gt-SETS.false)) c.if-channels-count.false ∙ sets_bytes a.dest sets good in
    let long : length (joined (set_frames a.dest sets)) ≡ a.count * frame_size = frames_long a.dest sets ∙ ap (λ (n : ℕ). n * frame_size) all_there in
    rw image
    (ap (λ (l : List ℕ). (written_row (Ok (a.count * frame_size)), l)) c.put_sets.ensures
    ∙ writes _ a.buffer.now (a.count * frame_size) long c.if-buffer-size.false)

pub overflow_cast-set : goal.overflow_cast-set
overflow_cast-set c =
    let sets : List (List ℕ) = sixteens c.args.count c.args.channels.now in
    let all_there : length sets ≡ c.args.count = length_sixteens c.args.count c.args.channels.now in
    let found = bad_found sets (sym c.in-Some.ensures) in
    omega (arith, found.0, found.1, all_there, c.if-count-gt-SETS.false)

pub overflow_cast-channel : goal.overflow_cast-channel
overflow_cast-channel c =
    let sets : List (List ℕ) = sixteens c.args.count c.args.channels.now in
    let all_there : length sets ≡ c.args.count = length_sixteens c.args.count c.args.channels.now in
    let found = bad_found sets (sym c.in-Some.ensures) in
    let place : first_above (get_or sets (first_bad sets) []) < channels_count =
    ltb-true (first_above (get_or sets (first_bad sets) [])) channels_count (first_found bad [] sets found.0) in
    omega (arith, found.2, place)

pub returns-in-Some : goal.returns-in-Some
returns-in-Some c =
    let a = c.args in
    let sets : List (List ℕ) = sixteens a.count a.channels.now in
    let address : listed a.dest ≡ true = not-false (listed a.dest) (not_as c.is_address.ensures (ap not c.if-not-is_address.false)) in
    let all_there : length sets ≡ a.count = length_sixteens a.count a.channels.now in
    let found = bad_found sets (sym c.in-Some.ensures) in
    let image_is : values_image a.dest a.channels.now a.count ≡ sets_image a.dest sets =
    values_sets a.dest a.channels.now a.count address (omega (arith, c.if-count-gt-SETS.false)) c.if-channels-count.false in
    rw (image_is, sets_refused a.dest sets found.0)
    (ap₂ (λ (x y : ℕ). (written_row (Err (SetChannelRange x y)), a.buffer.now)) (sym found.1) (sym found.2) ∙ refuses _ a.buffer.now)
