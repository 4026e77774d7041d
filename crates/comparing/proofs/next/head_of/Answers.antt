-- `comparing::next::head_of` meets its contract. Assumes nothing.
use mathlib.Core.Path.{sym, ap, ◌∙◌}
use Rattle.refusals.specs.Row.{struct_of}
use Rattle.stream.specs.declared.step.Reply.{Reply}
use Rattle.comparing.specs.Next.{head_of}
use Rattle.comparing.proofs.next.head_of.Goals as goal

pub returns-in-More : goal.returns-in-More
returns-in-More c =
    sym (ap (λ (x : Reply). struct_of (head_of x)) c.in-More.is)

pub returns-in-Frame : goal.returns-in-Frame
returns-in-Frame c =
    sym (ap (λ (x : Reply). struct_of (head_of x)) c.in-Frame.is)

pub returns-in-Refused : goal.returns-in-Refused
returns-in-Refused c =
    c.row_of.ensures ∙ sym (ap (λ (x : Reply). struct_of (head_of x)) c.in-Refused.is)
