-- `comparing::text::put_pair` meets its contract: the parts of the line, one behind another, and the bar over the left one's end. Assumes nothing.
use Prim.Native.Nat.{◌+◌, ◌-◌, ◌≤◌}
use native.Mathlib.Omega.{arith}
use lib.ListN.{length-append}
use Rattle.reading.specs.Reading.{limit, first}
use Rattle.lines.specs.Lines.{leading, line_end, longest_position}
use Rattle.lines.specs.Put.{Puts}
use Rattle.lines.proofs.Puts.{puts_within}
use Rattle.pairs.specs.Pairs.{side_of}
use Rattle.pairs.specs.Comparison.{bar, side_text}
use Rattle.comparing.specs.Call.{longest_pair}
use Rattle.comparing.proofs.Over.{puts_beside}
use Rattle.comparing.proofs.text.put_pair.Goals as goal

pub put_side-requires : goal.put_side-requires
put_side-requires c =
    let over : (let left = c.put_side-end in
    Puts left.new.out (left.result - 1) bar c.put_text-over.new.out c.put_text-over.result) = puts_within 3
    (omega (
      arith,
      c.requires.1,
      c.put_position-behind.ensures.1,
      c.put_position-behind.auto.out,
      c.put_side-end.ensures.1.1,
      c.put_side-end.auto.out,
    ))
    c.put_text-over.ensures in (
      c.requires.0.1,
      omega (
        arith,
        c.requires.1,
        c.put_position-behind.ensures.1,
        c.put_position-behind.auto.out,
        c.put_side-end.ensures.1.1,
        c.put_side-end.ensures.1.0,
        c.put_side-end.auto.out,
        over.next,
        c.put_text-over.auto.out,
      ),
    )

pub returns : goal.returns
returns c =
    let place : (let put = c.put_position-behind in
    Puts c.args.out.now c.args.at (leading c.args.place) put.new.out put.result) = puts_within longest_position (omega (arith, c.requires.1)) c.put_position-behind.ensures.0 in
    let over : (let left = c.put_side-end in
    Puts left.new.out (left.result - 1) bar c.put_text-over.new.out c.put_text-over.result) = puts_within 3
    (omega (
      arith,
      c.requires.1,
      c.put_position-behind.ensures.1,
      c.put_position-behind.auto.out,
      c.put_side-end.ensures.1.1,
      c.put_side-end.auto.out,
    ))
    c.put_text-over.ensures in
    let l = side_text (side_of (first limit c.args.left.now)) in
    let r = side_text (side_of (first limit c.args.right.now)) in
    let p = place in
    let q = c.put_side-end.ensures in
    let s = over in
    let t = c.put_side.ensures in
    let most : c.put_side.result ≤ c.args.at + longest_pair = omega (arith, c.put_position-behind.ensures.1, q.1.1, q.1.0, s.next, t.1.1) in (
      puts_beside l r
          (omega (arith, c.requires.1, most, p.next, q.0.next, q.1.0, s.next, t.0.next, length-append l line_end, length-append r line_end))
          p q.0 s t.0,
      most,
    )
