use mathlib.Core.Path.{sym, ◌∙◌}
use Rattle.log_reader.proofs.FrameSteps.{begun, frame_refused, frame_part, frame_last}
use Rattle.log_reader.proofs.held.feed_frame.Goals as goal

pub returns-then-not-may_follow : goal.returns-then-not-may_follow
returns-then-not-may_follow c =
    let a = c.args in
    frame_refused a.places.now a.seconds a.size a.held a.byte (begun a.places.now a.seconds a.size a.held c.requires) (sym c.may_follow.ensures ∙ c.if-not-may_follow.true)

pub returns-then-count-size : goal.returns-then-count-size
returns-then-count-size c =
    let a = c.args in
    frame_part a.places.now a.seconds a.size a.held a.byte (begun a.places.now a.seconds a.size a.held c.requires)
    (sym c.may_follow.ensures ∙ c.if-not-may_follow.false) c.if-count-size.true

pub judge-requires : goal.judge-requires
judge-requires c =
    let a = c.args in
    frame_last a.places.now a.seconds a.size a.held a.byte (begun a.places.now a.seconds a.size a.held c.requires)
    (sym c.may_follow.ensures ∙ c.if-not-may_follow.false) c.if-count-size.false
