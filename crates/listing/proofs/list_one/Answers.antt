-- `listing::list_one` meets its contract. Assumes nothing.
use mathlib.Core.Path.{sym, ◌∙◌}
use Prim.Native.Nat.{◌+◌, ◌≤◌}
use native.Mathlib.Omega.{arith}
use lib.ListN.{length}
use Rattle.lines.specs.Lines.{longest}
use Rattle.lines.proofs.Puts.{puts_none, puts_then, puts_within, puts_as}
use Rattle.listing.proofs.Said.{turn_asks, turn_says}
use Rattle.listing.proofs.list_one.Goals as goal

pub returns-then-asks_for_more : goal.returns-then-asks_for_more
returns-then-asks_for_more c =
    let steps = c.step_in-moved.ensures in
    record {
      steps = steps;
      puts = puts_as (turn_asks c.args.numbering c.requires.0 steps (sym c.asks_for_more.ensures ∙ c.if-asks_for_more.true)) puts_none;
      short = omega arith;
    }

pub returns : goal.returns
returns c =
    let steps = c.step_in-moved.ensures in
    let lead = c.put_lead-behind.ensures in
    let there : c.put_lead-behind.result + longest ≤ length c.put_lead-behind.new.out = omega (arith, lead.1, c.requires.1, c.put_lead-behind.auto.out) in
    record {
      steps = steps;
      puts = puts_as (turn_says c.args.numbering c.requires.0 steps (sym c.asks_for_more.ensures ∙ c.if-asks_for_more.false))
          (puts_then (omega (arith, lead.0.next, lead.1, c.requires.1)) lead.0 (puts_within longest there c.put_line-next.ensures.0));
      short = omega (arith, lead.1, c.put_line-next.ensures.1);
    }
