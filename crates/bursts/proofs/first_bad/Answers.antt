-- `bursts::first_bad` meets its contract: a set that is bad has a channel above 2047.
-- Assumes nothing.
use Rattle.std.specs.Prelude.{Some, None}
use mathlib.Core.Path.{◌≡◌, sym, ap, ◌∙◌}
use mathlib.Core.List.{List, []}
use Prim.Native.Nat.{ℕ, ◌*◌, ◌<◌}
use native.Mathlib.Omega.{arith}
use borrow.Author.Tests.{ltb-true}
use lib.ListN.{length, get_or}
use Rattle.base.specs.Parts.{part}
use Rattle.base.proofs.Parts.{length_part}
use Rattle.base.proofs.First.{first_found}
use Rattle.channels.specs.Channels.{channels_count, first_above, place_above}
use Rattle.channels.proofs.FirstAbove.{above_found, above_none}
use Rattle.bursts.specs.Burst.{bad, first_bad, sixteens}
use Rattle.bursts.proofs.Images.{place_is_bad, set_found}
use Rattle.bursts.proofs.Sixteens.{length_sixteens, sixteens_at}
use Rattle.bursts.proofs.first_bad.Goals as goal

pub overflow_mul-set : goal.overflow_mul-set
overflow_mul-set c =
    let sets : List (List ℕ) = sixteens c.args.count c.args.channels.now in
    let found = set_found sets (sym c.in_ok-set.ensures) in
    omega (arith, found.0, found.1, length_sixteens c.args.count c.args.channels.now, c.requires.0)

pub above_at-requires : goal.above_at-requires
above_at-requires c =
    let sets : List (List ℕ) = sixteens c.args.count c.args.channels.now in
    let found = set_found sets (sym c.in_ok-set.ensures) in
    omega (arith, found.0, found.1, length_sixteens c.args.count c.args.channels.now, c.requires.1)

pub returns-in_err-channel : goal.returns-in_err-channel
returns-in_err-channel c =
    let sets : List (List ℕ) = sixteens c.args.count c.args.channels.now in
    let all_there : length sets ≡ c.args.count = length_sixteens c.args.count c.args.channels.now in
    let found = set_found sets (sym c.in_ok-set.ensures) in
    let k = c.in_ok-set.set in
    let less : k < c.args.count = omega (arith, found.0, found.1, all_there) in
    let is : get_or sets k [] ≡ part c.args.channels.now (k * channels_count) channels_count = sixteens_at c.args.count c.args.channels.now k less in
    let asked : place_above (get_or sets k []) ≡ None =
    ap place_above is ∙ sym c.in_err-channel.ensures in
    let sixteen = length_part c.args.channels.now (k * channels_count) channels_count (omega (arith, less, c.requires.1)) in
    let none = above_none (get_or sets k []) asked in
    let is_bad : first_above (get_or sets (first_bad sets) []) < channels_count =
    ltb-true (first_above (get_or sets (first_bad sets) [])) channels_count (first_found bad [] sets found.0) in
    let there : first_above (get_or sets (first_bad sets) []) ≡ first_above (get_or sets k []) = ap (λ (j : ℕ). first_above (get_or sets j [])) found.1 in
    absurd (omega (arith, none, ap length is, sixteen, is_bad, there))

pub returns : goal.returns
returns c =
    let sets : List (List ℕ) = sixteens c.args.count c.args.channels.now in
    let all_there : length sets ≡ c.args.count = length_sixteens c.args.count c.args.channels.now in
    let found = set_found sets (sym c.in_ok-set.ensures) in
    let k = c.in_ok-set.set in
    let less : k < c.args.count = omega (arith, found.0, found.1, all_there) in
    let is : get_or sets k [] ≡ part c.args.channels.now (k * channels_count) channels_count = sixteens_at c.args.count c.args.channels.now k less in
    let asked : place_above (get_or sets k []) ≡ Some c.in_ok-channel.channel =
    ap place_above is ∙ sym c.in_ok-channel.ensures in
    place_is_bad sets k c.in_ok-channel.channel (omega (arith, less, all_there)) found.1 (above_found (get_or sets k []) asked).0
