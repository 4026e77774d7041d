-- Bytes put over the end of what was put before: a line's end, over which the next part of the line goes.
-- Assumes nothing.
use mathlib.Core.Path.{◌≡◌, refl, sym, ap, ap₂, ◌∙◌}
use mathlib.Core.List.{List, [], ◌∷◌, ◌++◌, append_assoc}
use Prim.Native.Nat.{ℕ, ◌+◌, ◌-◌, ◌≤◌}
use native.Mathlib.Omega.{arith}
use lib.ListN.{length, get_or, take, drop, length-append}
use lib.Seq.{take_at, length-take-le, drop-append-add, drop-drop}
use Rattle.base.specs.Parts.{pasted}
use Rattle.base.proofs.Parts.{pasted_append, length_pasted}
use Rattle.reading.specs.Answer.{Answer, InvalidSync, InvalidPacketLength, InvalidCrc, Frame, calculated, carried}
use Rattle.lines.specs.Lines.{sync_word, length_word, crc_word, frame_word, held_word, spaced_hex, spaced_decimal, frame_line, byte_line, crc_line, held_line, line, line_end}
use Rattle.lines.specs.Put.{Puts}
use Rattle.lines.proofs.Puts.{puts_then, length_puts}
use Rattle.pairs.specs.Comparison.{bar, bare, beside}

pasted_over : (d : List ℕ) (k : ℕ) (e zs : List ℕ) → length e ≤ length zs → k + length zs ≤ length d → pasted (pasted d k e) k zs ≡ pasted d k zs
unfolding pasted
pasted_over d k e zs few room =
    let a = take k d in
    let rest = drop (k + length e) d in
    let j = length zs - length e in
    let size : length a ≡ k = length-take-le k d (omega arith) in
    let front : take k (a ++ e ++ rest) ≡ a = ap (take k) (append_assoc a e rest) ∙ take_at a (e ++ rest) k size in
    let n : k + length zs ≡ length (a ++ e) + j = omega (arith, length-append a e) in
    let all : k + length e + j ≡ k + length zs = omega arith in
    let back : drop (k + length zs) (a ++ e ++ rest) ≡ drop (k + length zs) d =
    ap (λ (i : ℕ). drop i (a ++ e ++ rest)) n ∙ drop-append-add (a ++ e) rest j ∙ drop-drop j (k + length e) d ∙ ap (λ (i : ℕ). drop i d) all in
    ap₂ (λ (x y : List ℕ). x ++ zs ++ y) front back

pub puts_over : {d e f : List ℕ} {at a b : ℕ} (xs : List ℕ) (y : ℕ) {zs : List ℕ} → at + length xs + length zs ≤ length d → 1 ≤ length zs → Puts d at (xs ++ y ∷ []) e a
    → Puts e (a - 1) zs f b → Puts d at (xs ++ zs) f b
puts_over {d} {e} {f} {at} {a} {b} xs y {zs} room some p q =
    let k = at + length xs in
    let last = y ∷ [] in
    let size : length (xs ++ last) ≡ length xs + 1 = length-append xs last in
    let here : a - 1 ≡ k = omega (arith, p.next) in
    let long : length (pasted d at xs) ≡ length d = length_pasted d at xs (omega arith) in
    record {
      next = omega (arith, q.next, length-append xs zs);
      written = q.written
          ∙ ap₂ (λ (l : List ℕ) (i : ℕ). pasted l i zs) (p.written ∙ sym (pasted_append d at (length xs) xs last refl (omega arith))) here
          ∙ pasted_over (pasted d at xs) k last zs some (omega arith)
          ∙ pasted_append d at (length xs) xs zs refl (omega arith);
    }

-- a line of two sides: what begins it, the left side and a line's end, the bar over that, and the right side
pub puts_beside : {d e f g h : List ℕ} {at a b k z : ℕ} {lead : List ℕ} (l r : List ℕ) → at + length lead + length l + length bar + length r + 1 ≤ length d
    → Puts d at lead e a → Puts e a (l ++ line_end) f b → Puts f (b - 1) bar g k → Puts g k (r ++ line_end) h z → Puts d at (beside lead l r) h z
unfolding beside
puts_beside {d} {e} {f} {g} {h} {at} {a} {b} {k} {z} {lead} l r room p q s t =
    let first : length e ≡ length d = length_puts (omega arith) p in
    let left : length (l ++ line_end) ≡ length l + 1 = length-append l line_end in
    let right : length (r ++ line_end) ≡ length r + 1 = length-append r line_end in
    let second : length f ≡ length e = length_puts (omega (arith, p.next)) q in
    let behind : Puts f (b - 1) (bar ++ (r ++ line_end)) h z = puts_then (omega (arith, p.next, q.next)) s t in
    puts_then (omega arith) p (puts_over l 10 (omega (arith, p.next, length-append bar (r ++ line_end))) (omega (arith, length-append bar (r ++ line_end))) q behind)

-- ---- Lines and their ends

ends_bare : (xs : List ℕ) (y : ℕ) → xs ++ y ∷ [] ≡ bare (xs ++ y ∷ []) ++ y ∷ []
ends_bare xs y =
    let n : length xs ≡ length (xs ++ y ∷ []) - 1 = omega (arith, length-append xs (y ∷ [])) in
    ap (λ (l : List ℕ). l ++ y ∷ []) (sym (take_at xs (y ∷ []) (length (xs ++ y ∷ []) - 1) n))

pub line_ends : (a : Answer) → line a ≡ bare (line a) ++ line_end
unfolding line frame_line byte_line crc_line
line_ends (InvalidSync c) = ends_bare (sync_word ++ spaced_hex (get_or c 0 0)) 10
line_ends (InvalidPacketLength c) = ends_bare (length_word ++ spaced_hex (get_or c 1 0)) 10
line_ends (InvalidCrc c) = ends_bare (crc_word ++ spaced_hex (calculated c) ++ spaced_hex (carried c)) 10
line_ends (Frame c) = ends_bare (frame_word ++ spaced_hex (get_or c 0 0) ++ spaced_hex (get_or c 2 0) ++ spaced_decimal (length c - 4)) 10

pub held_ends : (n : ℕ) → held_line n ≡ bare (held_line n) ++ line_end
unfolding held_line
held_ends n = ends_bare (held_word ++ spaced_decimal n) 10
