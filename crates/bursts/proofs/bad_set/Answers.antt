-- `bursts::bad_set` meets its contract.
-- Assumes nothing.
use mathlib.Core.Path.{◌≡◌, sym, ap, ◌∙◌}
use mathlib.Core.Bool.{true, false}
use mathlib.Core.List.{List, []}
use Prim.Native.Nat.{ℕ, ◌*◌}
use native.Mathlib.Numerals.{add-one}
use native.Mathlib.Omega.{arith}
use borrow.Author.Tests.{le-ltb, lt-ltb}
use lib.ListN.{length, get_or, drop, drop_of_length-le}
use Rattle.std.specs.Option.{is_some}
use Rattle.base.specs.Parts.{part}
use Rattle.base.specs.First.{first_where}
use Rattle.base.proofs.Parts.{length_part}
use Rattle.base.proofs.First.{found, passed}
use Rattle.channels.specs.Channels.{channels_count, first_above, place_above}
use Rattle.channels.specs.declared.RcChannelsPacked.{RcChannelsPacked}
use Rattle.bursts.specs.Burst.{bad, first_bad, sixteens}
use Rattle.bursts.proofs.Images.{has_above, has_none, set_is_bad, no_set_bad}
use Rattle.bursts.proofs.Sixteens.{length_sixteens, sixteens_at}
use Rattle.bursts.proofs.bad_set.Goals as goal

pub returns-then-is_some : goal.returns-then-is_some
returns-then-is_some c =
    let sets : List (List ℕ) = sixteens c.args.count c.args.channels.now in
    let all_there : length sets ≡ c.args.count = length_sixteens c.args.count c.args.channels.now in
    let k = c.loop-k.k in
    let is : get_or sets k [] ≡ part c.args.channels.now (k * channels_count) channels_count =
    sixteens_at c.args.count c.args.channels.now k c.loop-k-test.true in
    let asked : is_some (place_above (get_or sets k [])) ≡ true =
    ap (λ (set : List ℕ). is_some (place_above set)) is ∙ ap (λ (set : RcChannelsPacked). is_some (place_above set.0)) (sym c.set_at.ensures)
    ∙ ap is_some (sym c.first_above.ensures) ∙ sym c.is_some.ensures ∙ c.if-is_some.true in
    let sixteen = length_part c.args.channels.now (k * channels_count) channels_count (omega arith) in
    let hit = found bad [] sets k (omega (arith, all_there)) (lt-ltb (first_above (get_or sets k [])) channels_count (omega (arith, has_above (get_or sets k []) asked, ap length is, sixteen))) in
    set_is_bad sets k (omega (arith, all_there)) (omega (arith, hit))

pub loop-k-preserved : goal.loop-k-preserved
loop-k-preserved c =
    let sets : List (List ℕ) = sixteens c.args.count c.args.channels.now in
    let all_there : length sets ≡ c.args.count = length_sixteens c.args.count c.args.channels.now in
    let k = c.loop-k.k in
    let is : get_or sets k [] ≡ part c.args.channels.now (k * channels_count) channels_count =
    sixteens_at c.args.count c.args.channels.now k c.loop-k-test.true in
    let asked : is_some (place_above (get_or sets k [])) ≡ false =
    ap (λ (set : List ℕ). is_some (place_above set)) is ∙ ap (λ (set : RcChannelsPacked). is_some (place_above set.0)) (sym c.set_at.ensures)
    ∙ ap is_some (sym c.first_above.ensures) ∙ sym c.is_some.ensures ∙ c.if-is_some.false in
    let sixteen = length_part c.args.channels.now (k * channels_count) channels_count (omega arith) in
    omega (
      arith,
      passed bad [] sets k (omega (arith, all_there)) (le-ltb (first_above (get_or sets k [])) channels_count (omega (arith, has_none (get_or sets k []) asked, ap length is, sixteen))),
      ap (λ (n : ℕ). first_bad (drop n sets)) (add-one k),
    )

pub returns : goal.returns
unfolding first_where
returns c =
    let sets : List (List ℕ) = sixteens c.args.count c.args.channels.now in
    let all_there : length sets ≡ c.args.count = length_sixteens c.args.count c.args.channels.now in
    no_set_bad sets (omega (arith, ap first_bad (drop_of_length-le sets {i = c.loop-k.k} (omega (arith, all_there)))))
