use mathlib.Core.Path.{sym, ◌∙◌}
use mathlib.Core.List.{List}
use Prim.Native.Nat.{ℕ, ◌-◌}
use native.Mathlib.Omega.{arith}
use lib.ListN.{length, take, drop}
use Rattle.stream.proofs.Loop.{unread_is}
use Rattle.log_reader.specs.declared.Reader.{Reader}
use Rattle.log_lines.specs.declared.Turn.{Turn}
use Rattle.log_lines.specs.Part.{Turns}
use Rattle.log_lines.proofs.Going.{takes, less, again, listed}
use Rattle.log_lines.proofs.list_entries.Goals as goal

-- a call over what is unread
unread : (part : List ℕ) (taken at : ℕ) {p q : List ℕ} {st : Reader} {out out' : List ℕ} {r : Turn}
    → Turns p st (take (length part - taken) (drop taken part)) out at q out' r → Turns p st (drop taken part) out at q out' r
unread part taken at t = rw (unread_is part taken) at t

pub overflow_add-taken : goal.overflow_add-taken
overflow_add-taken c =
    omega (arith, takes c.requires.1 c.loop-taken.invariant (unread c.args.part.now c.loop-taken.taken c.loop-taken.at c.list_one-one.ensures))

pub returns-then-not-is_entry : goal.returns-then-not-is_entry
returns-then-not-is_entry c =
    rw c.status_of.ensures
    (listed c.requires.1 c.loop-taken.invariant (unread c.args.part.now c.loop-taken.taken c.loop-taken.at c.list_one-one.ensures)
    (sym c.is_entry.ensures ∙ c.if-not-is_entry.true))

pub loop-taken-smaller : goal.loop-taken-smaller
loop-taken-smaller c =
    let turn = unread c.args.part.now c.loop-taken.taken c.loop-taken.at c.list_one-one.ensures in
    omega (arith, less c.requires.1 c.loop-taken.invariant turn (sym c.is_entry.ensures ∙ c.if-not-is_entry.false), takes c.requires.1 c.loop-taken.invariant turn)

pub loop-taken-preserved : goal.loop-taken-preserved
loop-taken-preserved c =
    again c.requires.1 c.loop-taken.invariant (unread c.args.part.now c.loop-taken.taken c.loop-taken.at c.list_one-one.ensures)
    (sym c.is_entry.ensures ∙ c.if-not-is_entry.false)
