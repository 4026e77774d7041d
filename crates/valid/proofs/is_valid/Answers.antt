use mathlib.Core.Path.{sym, ◌∙◌}
use Rattle.valid.proofs.Decisions.{too_short_lem, too_long, unlisted, other_size, by_sum}
use Rattle.valid.proofs.is_valid.Goals as goal
use Rattle.valid.proofs.is_valid.Goals.{then-n-lt4-via-then-n-lt4 as short, then-n-lt4-via-else-n-lt4+then-limit-n as long, then-n-lt4-via-else-n-lt4+else-limit-n+then-not-is_address as address, then-n-lt4-via-else-n-lt4+else-limit-n+else-not-is_address+then-from-n as length}

pub returns-then-n-lt4 : goal.returns-then-n-lt4
returns-then-n-lt4 c =
    let m = c.args.limit in
    let b = c.args.bytes.now in
    elim c.then-n-lt4.branch [
      | short w ↦ too_short_lem m b w.if-n-lt4.true
      | long w ↦ too_long m b w.if-limit-n.true
      | address w ↦ unlisted m b (sym w.is_address.ensures ∙ w.if-not-is_address.true)
      | length w ↦ other_size m b (λ e. w.if-from-n.true (cc))
    ]

pub returns : goal.returns
returns c =
    rw c.is_ok.ensures.value (by_sum c.args.limit c.args.bytes.now c.if-n-lt4.false c.if-limit-n.false
    (sym c.is_address.ensures ∙ c.if-not-is_address.false) (cc) c.checked.ensures)
