-- `diff_io::compare_blocks` meets its contract. Assumes nothing.
use mathlib.Core.Path.{sym, ◌∙◌, subst}
use mathlib.Core.Bool.{Bool}
use Prim.Native.Nat.{◌+◌, ◌-◌}
use native.Mathlib.Omega.{arith}
use Rattle.base.specs.Parts.{part}
use Rattle.comparing.proofs.Progress.{call_asks}
use Rattle.diff_io.specs.State.{Feeds}
use Rattle.diff_io.proofs.Kept.{begun, again, left_long, right_long, left_going, right_going}
use Rattle.diff_io.proofs.Asked.{short_left, short_right}
use Rattle.diff_io.proofs.compare_blocks.Goals as goal

pub loop-init : goal.loop-init
loop-init c = begun c.args.left.now c.args.right.now c.args.out.now

pub feed-requires : goal.feed-requires
feed-requires c =
    let s = c.loop in
    let kept = s.invariant in
    let called = c.in_ok-compared.ensures.ok in
    let asks = call_asks (part s.left s.l.from (s.l.to - s.l.from)) (part s.right s.r.from (s.r.to - s.r.from)) s.l.ends s.r.ends s.counts.agree s.counts.differ s.out called.0 in (
      left_going kept called.1.left_in,
      λ e.
          short_left asks kept.left_sound (omega (arith, c.requires.0.0, kept.left_size)) (left_long kept) called.1.left_in (sym c.is_left.ensures ∙ e),
    )

pub feed-requires-in-loop : goal.feed-requires-in-loop
feed-requires-in-loop c =
    let s = c.loop in
    let kept = s.invariant in
    let called = c.in_ok-compared.ensures.ok in
    let asks = call_asks (part s.left s.l.from (s.l.to - s.l.from)) (part s.right s.r.from (s.r.to - s.r.from)) s.l.ends s.r.ends s.counts.agree s.counts.differ s.out called.0 in (
      right_going kept called.1.right_in,
      λ e.
          short_right asks kept.right_sound (omega (arith, c.requires.0.1, kept.right_size)) (right_long kept) called.1.right_in (sym c.is_right.ensures ∙ e),
    )

pub loop-preserved : goal.loop-preserved
loop-preserved c =
    let s = c.loop in
    let kept = s.invariant in
    let called = c.in_ok-compared.ensures.ok in
    let took = c.in_ok-compared.compared in
    let asks = call_asks (part s.left s.l.from (s.l.to - s.l.from)) (part s.right s.r.from (s.r.to - s.r.from)) s.l.ends s.r.ends s.counts.agree s.counts.differ s.out called.0 in
    again kept called.0 asks (sym c.ended_by.ensures ∙ c.in_default.is) c.compare_part.auto.out
    (left_going kept called.1.left_in).ordered (right_going kept called.1.right_in).ordered
    (subst (λ (b : Bool). Feeds b s.left (s.l.from + took.left) s.l.to s.l.ends c.feed.new.block c.in_ok-l.l) c.is_left.ensures c.in_ok-l.ensures)
    c.feed.auto.block
    (subst (λ (b : Bool). Feeds b s.right (s.r.from + took.right) s.r.to s.r.ends c.feed-in-loop.new.block c.in_ok-r.r) c.is_right.ensures c.in_ok-r.ensures)
    c.feed-in-loop.auto.block
