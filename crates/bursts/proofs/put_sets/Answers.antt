use mathlib.Core.Path.{◌≡◌, sym, ap, ◌∙◌}
use mathlib.Core.List.{List, []}
use Prim.Native.Nat.{ℕ, ◌*◌}
use native.Mathlib.Omega.{arith}
use borrow.Author.Tests.{ltb-false}
use lib.ListN.{length, get_or}
use lib.Seq.{take_all}
use Rattle.base.specs.Parts.{part, pasted, placed}
use Rattle.base.proofs.Parts.{length_part, pasted_nil, cut_out}
use Rattle.base.proofs.First.{before_first}
use Rattle.reading.specs.Frame.{joined}
use Rattle.channels.specs.Channels.{channels_count, low_bits, first_above}
use Rattle.channels.specs.declared.RcChannelsPacked.{RcChannelsPacked}
use Rattle.bursts.specs.Burst.{frame_size, set_frame, set_frames, bad, sixteens}
use Rattle.bursts.proofs.Sixteens.{length_sixteens, sixteens_at}
use Rattle.bursts.proofs.Turns.{put_next, length_filled, fill_next}
use Rattle.bursts.proofs.put_sets.Goals as goal

pub loop-k-init : goal.loop-k-init
loop-k-init c =
    sym (pasted_nil _ 0)

pub slice_bounds-put_rc_channels-count : goal.slice_bounds-put_rc_channels-count
slice_bounds-put_rc_channels-count c =
    let Counted : List (List ℕ) = sixteens c.args.count c.args.channels.now in
    let all_there : length Counted ≡ c.args.count = length_sixteens c.args.count c.args.channels.now in
    let same : length c.loop-k.buffer ≡ length c.args.buffer.now = let a = c.args in
    ap length c.loop-k.invariant ∙ length_filled a.dest Counted a.buffer.now c.loop-k.k (omega (arith, all_there)) (omega arith) in
    omega (arith, same)

pub slice_bounds-put_rc_channels-start : goal.slice_bounds-put_rc_channels-start
slice_bounds-put_rc_channels-start c =
    let Counted : List (List ℕ) = sixteens c.args.count c.args.channels.now in
    let all_there : length Counted ≡ c.args.count = length_sixteens c.args.count c.args.channels.now in
    let same : length c.loop-k.buffer ≡ length c.args.buffer.now = let a = c.args in
    ap length c.loop-k.invariant ∙ length_filled a.dest Counted a.buffer.now c.loop-k.k (omega (arith, all_there)) (omega arith) in
    omega (arith, same)

pub shape_of-buffer : goal.shape_of-buffer
shape_of-buffer c =
    let Counted : List (List ℕ) = sixteens c.args.count c.args.channels.now in
    let all_there : length Counted ≡ c.args.count = length_sixteens c.args.count c.args.channels.now in
    let same : length c.loop-k.buffer ≡ length c.args.buffer.now = let a = c.args in
    ap length c.loop-k.invariant ∙ length_filled a.dest Counted a.buffer.now c.loop-k.k (omega (arith, all_there)) (omega arith) in
    same

pub returns : goal.returns
returns c =
    let Counted : List (List ℕ) = sixteens c.args.count c.args.channels.now in
    let all_there : length Counted ≡ c.args.count = length_sixteens c.args.count c.args.channels.now in
    let a = c.args in
    let sets = Counted in
    c.loop-k.invariant
    ∙ ap (λ (l : List (List ℕ)). pasted a.buffer.now 0 (joined (set_frames a.dest l))) (take_all c.loop-k.k sets (omega (arith, all_there)))

pub loop-k-preserved : goal.loop-k-preserved
loop-k-preserved c =
    let Counted : List (List ℕ) = sixteens c.args.count c.args.channels.now in
    let all_there : length Counted ≡ c.args.count = length_sixteens c.args.count c.args.channels.now in
    let same : length c.loop-k.buffer ≡ length c.args.buffer.now = let a = c.args in
    ap length c.loop-k.invariant ∙ length_filled a.dest Counted a.buffer.now c.loop-k.k (omega (arith, all_there)) (omega arith) in
    let a = c.args in
    let k = c.loop-k.k in
    let at = k * frame_size in
    let buffer = c.loop-k.buffer in
    let sets = Counted in
    let set = part a.channels.now (k * channels_count) channels_count in
    let is : get_or sets k [] ≡ set = sixteens_at a.count a.channels.now k c.loop-k-test.true in
    let good = ltb-false (first_above (get_or sets k [])) channels_count (before_first bad [] sets k (omega (arith, c.requires.frame_size_in_bounds.1))) in
    let sixteen = length_part a.channels.now (k * channels_count) channels_count (omega arith) in
    put_next a.dest set buffer at sixteen (rw is at good) (omega (arith, same))
    (c.put_rc_channels.ensures
    ∙ ap (λ (x : RcChannelsPacked). placed (cut_out buffer at (length buffer)) 0 (set_frame a.dest (low_bits x.0))) c.set_at.ensures)
    ∙ ap (λ (l : List ℕ). pasted buffer at (set_frame a.dest l)) (sym is)
    ∙ ap (λ (l : List ℕ). pasted l at (set_frame a.dest (get_or sets k []))) c.loop-k.invariant
    ∙ fill_next a.dest sets a.buffer.now k (omega (arith, all_there)) (omega arith)
