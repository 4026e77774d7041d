-- Whether two answers agree, by number, values and bytes.
-- Assumes nothing.
use mathlib.Core.Path.{◌≡◌, refl, sym, ap, ap₂, ◌∙◌}
use mathlib.Core.Bool.{Bool, true, false, ◌&&◌, and-eq-true_iff}
use mathlib.Core.List.{List, [], ◌∷◌}
use Prim.Native.Nat.{ℕ}
use native.Mathlib.Omega.{arith}
use lib.Dec.{eqb}
use lib.ListN.{get_or, take}
use borrow.Author.Tests.{eqb-true, eq-eqb, ne_eqb}
use Rattle.base.specs.Choice.{when◌then◌else◌}
use Rattle.base.specs.Same.{same_bytes}
use Rattle.refusals.specs.Row.{struct_of}
use Rattle.reading.specs.Answer.{InvalidSync, InvalidPacketLength, InvalidCrc, row, calculated, carried, drops, candidate}
use Rattle.reading.specs.Answer as reading
use Rattle.reading.specs.Reading.{limit, First, stop, says, first}
use Rattle.reading.specs.Call.{dropped_by}
use Rattle.reading.proofs.First.{stands}
use Rattle.stream.specs.Step.{Said, more, frame, refused, said_of, meaning_of}
use Rattle.stream.specs.declared.step.Reply.{Reply}
use Rattle.stream.specs.declared.step.Reply.TheVariants.{More, Frame, Refused}
use Rattle.pairs.specs.Pairs.{pair, side_of, side_row, agrees}
use Rattle.comparing.specs.Next.{Finds, head_of, same_row}
use Rattle.comparing.specs.declared.next.Next.{Next}

-- ---- The head of what is said is that of what the reading has first

head_said : Said → List ℕ
head_said more = 255 ∷ []
head_said (frame h c) = 0 ∷ []
head_said (refused row) = row

head_first : First → List ℕ
head_first stop = 255 ∷ []
head_first (says (InvalidSync c)) = row (InvalidSync c)
head_first (says (InvalidPacketLength c)) = row (InvalidPacketLength c)
head_first (says (InvalidCrc c)) = row (InvalidCrc c)
head_first (says (reading.Frame c)) = 0 ∷ []

head_said_lem : (f : First) → head_said (said_of false f) ≡ head_first f
unfolding head_said head_first said_of
head_said_lem stop = refl
head_said_lem (says (InvalidSync c)) = refl
head_said_lem (says (InvalidPacketLength c)) = refl
head_said_lem (says (InvalidCrc c)) = refl
head_said_lem (says (reading.Frame c)) = refl

head_meant : (reply : Reply) (input : List ℕ) → head_of reply ≡ head_said (meaning_of reply input [])
unfolding head_said meaning_of
head_meant More input = refl
head_meant (Frame p) input = refl
head_meant (Refused r) input = refl

-- ---- Two of them

bytes_of : First → List ℕ
bytes_of stop = []
bytes_of (says (InvalidSync c)) = []
bytes_of (says (InvalidPacketLength c)) = []
bytes_of (says (InvalidCrc c)) = []
bytes_of (says (reading.Frame c)) = c

-- the heads are the same, and where that is a frame's, the bytes
abbrev alike : First → First → Bool
alike f g =
    let x = struct_of (head_first f) in
    same_row x (struct_of (head_first g)) && (when eqb x.number 0 then same_bytes (bytes_of f) (bytes_of g) else true)

one_value : (b : Bool) → b && true ≡ (b && true) && true
one_value true = refl
one_value false = refl

two_values : (a b : Bool) → a && (b && true) ≡ (a && b) && true
two_values true b = refl
two_values false b = refl

rows_alike : (f g : First) → same_bytes (side_row (side_of f)) (side_row (side_of g)) ≡ alike f g
unfolding same_bytes side_row row head_first bytes_of
rows_alike stop stop = refl
rows_alike stop (says (InvalidSync d)) = refl
rows_alike stop (says (InvalidPacketLength d)) = refl
rows_alike stop (says (InvalidCrc d)) = refl
rows_alike stop (says (reading.Frame d)) = refl
rows_alike (says (InvalidSync c)) stop = refl
rows_alike (says (InvalidSync c)) (says (InvalidSync d)) = one_value (eqb (get_or c 0 0) (get_or d 0 0))
rows_alike (says (InvalidSync c)) (says (InvalidPacketLength d)) = refl
rows_alike (says (InvalidSync c)) (says (InvalidCrc d)) = refl
rows_alike (says (InvalidSync c)) (says (reading.Frame d)) = refl
rows_alike (says (InvalidPacketLength c)) stop = refl
rows_alike (says (InvalidPacketLength c)) (says (InvalidSync d)) = refl
rows_alike (says (InvalidPacketLength c)) (says (InvalidPacketLength d)) = one_value (eqb (get_or c 1 0) (get_or d 1 0))
rows_alike (says (InvalidPacketLength c)) (says (InvalidCrc d)) = refl
rows_alike (says (InvalidPacketLength c)) (says (reading.Frame d)) = refl
rows_alike (says (InvalidCrc c)) stop = refl
rows_alike (says (InvalidCrc c)) (says (InvalidSync d)) = refl
rows_alike (says (InvalidCrc c)) (says (InvalidPacketLength d)) = refl
rows_alike (says (InvalidCrc c)) (says (InvalidCrc d)) = two_values (eqb (calculated c) (calculated d)) (eqb (carried c) (carried d))
rows_alike (says (InvalidCrc c)) (says (reading.Frame d)) = refl
rows_alike (says (reading.Frame c)) stop = refl
rows_alike (says (reading.Frame c)) (says (InvalidSync d)) = refl
rows_alike (says (reading.Frame c)) (says (InvalidPacketLength d)) = refl
rows_alike (says (reading.Frame c)) (says (InvalidCrc d)) = refl
rows_alike (says (reading.Frame c)) (says (reading.Frame d)) = refl

-- a frame's bytes are those that it drops
bytes_are : (s : List ℕ) (f : First) → first limit s ≡ f → get_or (head_first f) 0 0 ≡ 0 → bytes_of f ≡ take (dropped_by f) s
unfolding head_first bytes_of dropped_by drops row candidate
bytes_are s stop e z = absurd (omega arith)
bytes_are s (says (InvalidSync c)) e z = absurd (omega arith)
bytes_are s (says (InvalidPacketLength c)) e z = absurd (omega arith)
bytes_are s (says (InvalidCrc c)) e z = absurd (omega arith)
bytes_are s (says (reading.Frame c)) e z = sym (stands limit s (reading.Frame c) e).begins

module _ {left right : List ℕ} {a b : Next} (p : Finds left a) (q : Finds right b) where
  abbrev f : First
  f = first limit left

  abbrev g : First
  g = first limit right

  abbrev agree : Bool
  agree = agrees (pair (side_of f) (side_of g))

  abbrev same : Bool
  same = same_row (struct_of (head_of a.reply)) (struct_of (head_of b.reply))

  head_left : head_of a.reply ≡ head_first f
  head_left = head_meant a.reply left ∙ ap head_said p.said ∙ head_said_lem f

  head_right : head_of b.reply ≡ head_first g
  head_right = head_meant b.reply right ∙ ap head_said q.said ∙ head_said_lem g

  agree_is : agree ≡ (same && (when eqb (get_or (head_of a.reply) 0 0) 0 then same_bytes (bytes_of f) (bytes_of g) else true))
  agree_is =
      rows_alike f g
      ∙ ap₂ (λ (x y : List ℕ). same_row (struct_of x) (struct_of y) && (when eqb (get_or x 0 0) 0 then same_bytes (bytes_of f) (bytes_of g) else true))
      (sym head_left) (sym head_right)

  pub other_heads : same ≡ false → false ≡ agree
  other_heads e = sym (agree_is ∙ simp e)

  pub same_refusals : same ≡ true → (get_or (head_of a.reply) 0 0 ≡ 0 → ⊥) → true ≡ agree
  same_refusals e some = sym (agree_is ∙ simp (e, ne_eqb (get_or (head_of a.reply) 0 0) 0 some))

  pub same_frames : same ≡ true → get_or (head_of a.reply) 0 0 ≡ 0 → same_bytes (take a.size left) (take b.size right) ≡ agree
  same_frames e none =
      let numbers = eqb-true (get_or (head_of a.reply) 0 0) (get_or (head_of b.reply) 0 0) ((and-eq-true_iff _ _).0 e).0 in
      let l : bytes_of f ≡ take a.size left =
      bytes_are left f refl (ap (λ (x : List ℕ). get_or x 0 0) (sym head_left) ∙ none) ∙ ap (λ (n : ℕ). take n left) (sym p.size_is) in
      let r : bytes_of g ≡ take b.size right =
      bytes_are right g refl (ap (λ (x : List ℕ). get_or x 0 0) (sym head_right) ∙ sym numbers ∙ none) ∙ ap (λ (n : ℕ). take n right) (sym q.size_is) in
      sym (agree_is ∙ simp (e, eq-eqb (get_or (head_of a.reply) 0 0) 0 none) (ap₂ same_bytes l r))
