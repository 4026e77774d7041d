use mathlib.Core.Path.{◌≡◌, refl, sym, ap, ◌∙◌}
use mathlib.Core.List.{List, [], ◌∷◌, ◌++◌}
use Prim.Native.Nat.{ℕ, ◌+◌, ◌-◌, ◌*◌}
use native.Mathlib.Numerals.{add-one}
use native.Mathlib.Omega.{arith}
use borrow.Author.Rules.{rules}
use borrow.Rule.Slice.PartMut.{put_mid}
use lib.ListN.{length, get_or, drop, take, length-drop}
use lib.Seq.{take-suc, take_all, length-take-le}
use Rattle.std.proofs.lemmas.Slice.{put_mid-paste}
use Rattle.base.specs.Parts.{pasted}
use Rattle.base.proofs.Parts.{length_pasted, paste_all}
use Rattle.channels.specs.Channels.{channels_count}
use Rattle.bursts.specs.Burst.{most_sets, sixteens}
use Rattle.bursts.proofs.Sixteens.{sixteens_put}
use Rattle.bursts.proofs.flat.Goals as goal

pub loop-k-init : goal.loop-k-init
unfolding sixteens
loop-k-init c =
    (refl, refl)

pub loop-k-preserved : goal.loop-k-preserved
loop-k-preserved c =
    let eight : length c.args.sets ≡ most_sets = search rules in
    let sets = c.args.sets in
    let numbers = c.loop-k.numbers in
    let k = c.loop-k.k in
    let at : ℕ = k * channels_count in
    let set = get_or sets k [] in
    let put : List ℕ = c.copy_from_slice.new.self in
    let is : put ≡ set = c.copy_from_slice.ensures.after in
    let places : length (take (at + channels_count - at) (drop at numbers)) ≡ channels_count =
    length-take-le (at + channels_count - at) (drop at numbers) (omega (arith, length-drop at numbers)) ∙ omega arith in
    let sixteen : length set ≡ channels_count = ap length (sym is) ∙ c.copy_from_slice.ensures.len ∙ places in
    let there : put_mid at (at + channels_count - at) numbers put ≡ pasted numbers at set =
    put_mid-paste at (at + channels_count - at) numbers put set channels_count is (omega arith) (sym sixteen) ∙ paste_all numbers at set channels_count (sym sixteen) in (
      ap length there ∙ length_pasted numbers at set (omega (arith, sixteen)) ∙ c.loop-k.invariant.0,
      ap (sixteens (k + 1)) there
          ∙ ap (λ (n : ℕ). sixteens n (pasted numbers at set)) (add-one k)
          ∙ sixteens_put k numbers set sixteen (omega arith)
          ∙ ap (λ (l : List (List ℕ)). l ++ (set ∷ [])) c.loop-k.invariant.1
          ∙ sym (take-suc sets k [] (omega (arith, eight)))
          ∙ ap (λ (n : ℕ). take n sets) (sym (add-one k)),
    )

pub returns : goal.returns
returns c =
    let eight : length c.args.sets ≡ most_sets = search rules in
    let all : most_sets ≡ c.loop-k.k = omega arith in
    let sets = c.args.sets in
    ap (λ (n : ℕ). sixteens n c.loop-k.numbers) all ∙ c.loop-k.invariant.1 ∙ take_all c.loop-k.k sets (omega (arith, eight))
