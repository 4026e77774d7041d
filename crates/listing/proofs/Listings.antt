-- The listing, call by call.
-- Assumes nothing.
use mathlib.Core.Path.{◌≡◌, sym, ap, ap₂, ◌∙◌}
use mathlib.Core.List.{List, [], ◌∷◌, ◌++◌, append_assoc}
use Prim.Native.Nat.{ℕ, ◌+◌, ◌-◌, ◌≤◌, ◌<◌}
use native.Mathlib.Nat.{add_assoc}
use borrow.Author.Tests.{lt-ltb, le-ltb}
use lib.ListN.{length, drop}
use Rattle.reading.specs.Answer.{Answer, drops}
use Rattle.reading.specs.Reading.{stop, says, first, Reading, reading}
use Rattle.reading.specs.Call.{dropped_by, call}
use Rattle.reading.proofs.Reading as read
use Rattle.reading.proofs.Call.{answers_first, rest}
use Rattle.lines.specs.Lines.{line}
use Rattle.listing.specs.Numbering.{Numbering, lead, past, room_for}
use Rattle.listing.specs.Listing.{Listing, after, full, asking, list_from, list_of}

-- two runs of lines are one
pub after_after : (l k : List ℕ) (n j : ℕ) (more : Listing) → after l n (after k j more) ≡ after (l ++ k) (n + j) more
after_after l k n j more =
    ap₂ (λ (t : List ℕ) (i : ℕ). record { lines = t; taken = i; held = more.held; asks = more.asks; next = more.next })
    (sym (append_assoc l k more.lines))
    (sym (add_assoc n j more.taken))

-- what is left behind an answer
module _ (m : ℕ) (held input : List ℕ) (a : Answer) (e : (call m held input).answer ≡ says a) where
  abbrev left : List ℕ
  left = (call m held input).held ++ drop (call m held input).taken input

  pub left_is : left ≡ drop (drops a) (held ++ input)
  unfolding dropped_by
  left_is = rest m held input ∙ ap (λ f. drop (dropped_by f) (held ++ input)) e

  stands_first : first m (held ++ input) ≡ says a
  stands_first = answers_first m held input ∙ e

  answers_are : (reading m (held ++ input)).answers ≡ a ∷ (reading m left).answers
  answers_are =
      ap (λ (r : Reading). r.answers) (read.at_says m (held ++ input) a stands_first)
      ∙ ap (λ (l : List ℕ). a ∷ (reading m l).answers) (sym left_is)

full_from : (m : ℕ) (n : Numbering) (answers : List Answer) (held input : List ℕ) (room : ℕ) → room < room_for n
    → list_from m n answers held input room ≡ full n held
unfolding list_from
full_from m n [] held input room h = simp (lt-ltb room (room_for n) h)
full_from m n (a ∷ more) held input room h = simp (lt-ltb room (room_for n) h)

module _ (m : ℕ) (n : Numbering) (held input : List ℕ) (room : ℕ) where
  pub at_full : room < room_for n → list_of m n held input room ≡ full n held
  unfolding list_of
  at_full h = full_from m n (reading m (held ++ input)).answers held input room h

  pub at_stop : room_for n ≤ room → (call m held input).answer ≡ stop → list_of m n held input room ≡ asking n held input
  unfolding list_of list_from
  at_stop h e =
      let none = read.at_stop m (held ++ input) (answers_first m held input ∙ e) in
      ap (λ (r : Reading). list_from m n r.answers held input room) none ∙ simp (le-ltb room (room_for n) h)

  pub at_says : room_for n ≤ room → (a : Answer) → (call m held input).answer ≡ says a
      → list_of m n held input room
      ≡ (let c = call m held input in let l = lead n ++ line a in
      after l c.taken (list_of m (past n (a ∷ [])) c.held (drop c.taken input) (room - length l)))
  unfolding list_of list_from
  at_says h a e =
      ap (λ (all : List Answer). list_from m n all held input room) (answers_are m held input a e) ∙ simp (le-ltb room (room_for n) h)
