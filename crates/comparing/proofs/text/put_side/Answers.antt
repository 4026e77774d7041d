-- `comparing::text::put_side` meets its contract. Assumes nothing.
use mathlib.Core.Path.{sym, ◌∙◌}
use native.Mathlib.Omega.{arith}
use lib.ListN.{length-append}
use Rattle.reading.specs.Reading.{limit, first}
use Rattle.lines.specs.Lines.{longest, line_end}
use Rattle.lines.proofs.Puts.{puts_within, puts_as}
use Rattle.pairs.specs.Pairs.{side_of}
use Rattle.pairs.specs.Comparison.{side_text}
use Rattle.comparing.proofs.Found.{side_none, side_some}
use Rattle.comparing.proofs.text.put_side.Goals as goal

pub returns-then-asks_for_more : goal.returns-then-asks_for_more
returns-then-asks_for_more c =
    let f = first limit c.args.input.now in
    let p = puts_as (side_none f (sym c.requires.0.asks ∙ (sym c.asks_for_more.ensures ∙ c.if-asks_for_more.true)))
    (puts_within 2 (omega (arith, c.requires.1)) c.put_text.ensures) in
    (p, (omega (arith, p.next, length-append (side_text (side_of f)) line_end), omega (arith, (puts_within 2 (omega (arith, c.requires.1)) c.put_text.ensures).next)))

pub returns : goal.returns
returns c =
    let f = first limit c.args.input.now in
    let p = puts_as (side_some f (sym c.requires.0.asks ∙ (sym c.asks_for_more.ensures ∙ c.if-asks_for_more.false)) ∙ sym c.requires.0.line_is)
    (puts_within longest c.requires.1 c.put_line.ensures.0) in
    (p, (omega (arith, p.next, length-append (side_text (side_of f)) line_end), c.put_line.ensures.1))
