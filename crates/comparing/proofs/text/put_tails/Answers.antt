-- `comparing::text::put_tails` meets its contract. Assumes nothing.
use mathlib.Core.Path.{sym}
use mathlib.Core.List.{◌++◌}
use Prim.Native.Nat.{◌+◌, ◌-◌, ◌≤◌}
use native.Mathlib.Omega.{arith}
use lib.ListN.{length, length-append}
use Rattle.lines.specs.Lines.{held_line, line_end, longest}
use Rattle.lines.specs.Put.{Puts}
use Rattle.lines.proofs.Puts.{puts_within, puts_as}
use Rattle.pairs.specs.Comparison.{tail_word, bar, bare}
use Rattle.comparing.specs.Call.{longest_tails}
use Rattle.comparing.proofs.Over.{puts_beside, held_ends}
use Rattle.comparing.proofs.text.put_tails.Goals as goal

pub overflow_sub-end : goal.overflow_sub-end
overflow_sub-end c =
    let word : (Puts c.args.out.now c.args.at tail_word c.put_text-behind.new.out c.put_text-behind.result) = puts_within 5 (omega (arith, c.requires)) c.put_text-behind.ensures in
    let held : (let n = c.args.left in
    Puts c.put_text-behind.new.out c.put_text-behind.result (bare (held_line n) ++ line_end) c.put_held-end.new.out c.put_held-end.result) = puts_as (sym (held_ends c.args.left))
    (puts_within longest (omega (arith, c.requires, word.next, c.put_text-behind.auto.out)) c.put_held-end.ensures.0) in
    let some : 1 ≤ c.put_held-end.result = omega (arith, held.next, length-append (bare (held_line c.args.left)) line_end) in
    some

pub returns : goal.returns
returns c =
    let word : (Puts c.args.out.now c.args.at tail_word c.put_text-behind.new.out c.put_text-behind.result) = puts_within 5 (omega (arith, c.requires)) c.put_text-behind.ensures in
    let held : (let n = c.args.left in
    Puts c.put_text-behind.new.out c.put_text-behind.result (bare (held_line n) ++ line_end) c.put_held-end.new.out c.put_held-end.result) = puts_as (sym (held_ends c.args.left))
    (puts_within longest (omega (arith, c.requires, word.next, c.put_text-behind.auto.out)) c.put_held-end.ensures.0) in
    let some : 1 ≤ c.put_held-end.result = omega (arith, held.next, length-append (bare (held_line c.args.left)) line_end) in
    let over : (let left = c.put_held-end in
    Puts left.new.out (left.result - 1) bar c.put_text-over.new.out c.put_text-over.result) = puts_within 3
    (omega (arith, c.requires, word.next, c.put_text-behind.auto.out, c.put_held-end.ensures.1, c.put_held-end.auto.out))
    c.put_text-over.ensures in
    let l = bare (held_line c.args.left) in
    let r = bare (held_line c.args.right) in
    let p = word in
    let q = held in
    let s = over in
    let there : c.put_text-over.result + longest ≤ length c.put_text-over.new.out = omega (arith, c.requires, p.next, c.put_held-end.ensures.1, some, s.next, c.put_text-behind.auto.out, c.put_held-end.auto.out, c.put_text-over.auto.out) in
    let t = puts_as (sym (held_ends c.args.right)) (puts_within longest there c.put_held.ensures.0) in
    let most : c.put_held.result ≤ c.args.at + longest_tails = omega (arith, p.next, c.put_held-end.ensures.1, some, s.next, c.put_held.ensures.1) in (
      puts_beside l r (omega (arith, c.requires, most, p.next, q.next, some, s.next, t.next, length-append l line_end, length-append r line_end)) p q s t,
      most,
    )
