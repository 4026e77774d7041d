-- `comparing::text::put_last` meets its contract: the line's end goes over the space behind the last number. Assumes nothing.
use Prim.Native.Nat.{◌≤◌}
use mathlib.Core.List.{◌++◌}
use native.Mathlib.Omega.{arith}
use Rattle.lines.specs.Digits.{decimal}
use Rattle.lines.specs.Lines.{leading, line_end, longest_position}
use Rattle.lines.specs.Put.{Puts}
use Rattle.lines.proofs.Puts.{puts_within, puts_then}
use Rattle.lines.proofs.Digits.{length_leading}
use Rattle.pairs.specs.Comparison.{agree_word, differ_word, last_line}
use Rattle.comparing.proofs.Over.{puts_over}
use Rattle.comparing.proofs.text.put_last.Goals as goal

pub overflow_sub-end : goal.overflow_sub-end
overflow_sub-end c =
    let word : (Puts c.args.out.now c.args.at agree_word c.put_text-first.new.out c.put_text-first.result) = puts_within 6 (omega (arith, c.requires)) c.put_text-first.ensures in
    let word_2 : (let first = c.put_position-second in
    Puts first.new.out first.result differ_word c.put_text-third.new.out c.put_text-third.result) = puts_within 7
    (omega (arith, c.requires, word.next, c.put_text-first.auto.out, c.put_position-second.ensures.1, c.put_position-second.auto.out))
    c.put_text-third.ensures in
    let number_2 : (let n = c.args.counts.differ in
    Puts c.put_text-third.new.out c.put_text-third.result (leading n) c.put_position-end.new.out c.put_position-end.result) = puts_within longest_position
    (omega (
      arith,
      c.requires,
      word.next,
      c.put_text-first.auto.out,
      c.put_position-second.ensures.1,
      c.put_position-second.auto.out,
      word_2.next,
      c.put_text-third.auto.out,
    ))
    c.put_position-end.ensures.0 in
    let some : 1 ≤ c.put_position-end.result = let n = c.args.counts.differ in
    omega (arith, number_2.next, length_leading n) in
    some

pub returns : goal.returns
unfolding last_line
returns c =
    let word : (Puts c.args.out.now c.args.at agree_word c.put_text-first.new.out c.put_text-first.result) = puts_within 6 (omega (arith, c.requires)) c.put_text-first.ensures in
    let number : (let n = c.args.counts.agree in
    Puts c.put_text-first.new.out c.put_text-first.result (leading n) c.put_position-second.new.out c.put_position-second.result) = puts_within longest_position (omega (arith, c.requires, word.next, c.put_text-first.auto.out)) c.put_position-second.ensures.0 in
    let word_2 : (let first = c.put_position-second in
    Puts first.new.out first.result differ_word c.put_text-third.new.out c.put_text-third.result) = puts_within 7
    (omega (arith, c.requires, word.next, c.put_text-first.auto.out, c.put_position-second.ensures.1, c.put_position-second.auto.out))
    c.put_text-third.ensures in
    let number_2 : (let n = c.args.counts.differ in
    Puts c.put_text-third.new.out c.put_text-third.result (leading n) c.put_position-end.new.out c.put_position-end.result) = puts_within longest_position
    (omega (
      arith,
      c.requires,
      word.next,
      c.put_text-first.auto.out,
      c.put_position-second.ensures.1,
      c.put_position-second.auto.out,
      word_2.next,
      c.put_text-third.auto.out,
    ))
    c.put_position-end.ensures.0 in
    let some : 1 ≤ c.put_position-end.result = let n = c.args.counts.differ in
    omega (arith, number_2.next, length_leading n) in
    let n = c.args.counts.agree in
    let d = c.args.counts.differ in
    let p = word in
    let q = number in
    let s = word_2 in
    let t = number_2 in
    let one = c.put_text-first.auto.out in
    let two = c.put_position-second.auto.out in
    let three = c.put_text-third.auto.out in
    let four = c.put_position-end.auto.out in
    let few = c.put_position-second.ensures.1 in
    let few-2 = c.put_position-end.ensures.1 in
    let u = puts_within 1
    (omega (arith, c.requires, p.next, s.next, some, one, two, three, four, few, few-2)) c.put_text.ensures in
    let last : Puts c.put_text-third.new.out c.put_text-third.result (decimal d ++ line_end) c.put_text.new.out c.put_text.result =
    puts_over (decimal d) 32 (omega (arith, c.requires, p.next, s.next, one, two, three, few, few-2, t.next, length_leading d)) (omega arith) t u in (
      puts_then (omega (arith, c.requires)) p
          (puts_then (omega (arith, c.requires, p.next, one, few, q.next)) q
          (puts_then (omega (arith, c.requires, p.next, one, two, few)) s last)),
      omega (arith, p.next, s.next, some, u.next, few, few-2),
    )
