-- Piece after piece, what is held is the tail of everything that was read (RULES 5), and the numbering stands behind its answers (RULES 18), so the last
-- line counts the one and begins with the other (RULES 13).
-- Assumes nothing.
use mathlib.Core.Path.{◌≡◌, sym, ap, ◌∙◌}
use mathlib.Core.List.{List, ◌++◌}
use Prim.Native.Nat.{ℕ}
use lib.ListN.{length}
use Rattle.reading.specs.Reading.{Reading, reading}
use Rattle.reading.proofs.Reading.{read_on}
use Rattle.stream.specs.Places.{held_in}
use Rattle.listing.specs.Numbering.{Numbering, past}
use Rattle.listing.proofs.Numberings.{past_append}
use Rattle.listing_io.specs.State.{Leaves}
use Rattle.listing_io.specs.declared.State.{State}

module _ {before : List ℕ} {start end : ℕ} {n : Numbering} {piece places : List ℕ} {r : State} (stream : List ℕ) (left : Leaves before start end n piece places r)
    (held : held_in before start end ≡ (reading (length before) stream).tail) where
  pub tail_on : held_in places r.start r.end ≡ (reading (length before) (stream ++ piece)).tail
  tail_on =
      left.tail_is
      ∙ ap (λ (x : List ℕ). (reading (length before) (x ++ piece)).tail) held
      ∙ ap (λ (x : Reading). x.tail) (sym (read_on (length before) stream piece))

  pub number_on : (first : Numbering) → n ≡ past first (reading (length before) stream).answers
      → r.numbering ≡ past first (reading (length before) (stream ++ piece)).answers
  number_on first e =
      let m = length before in
      let more = (reading m ((reading m stream).tail ++ piece)).answers in
      left.number_is
      ∙ ap (λ (x : List ℕ). past n (reading m (x ++ piece)).answers) held
      ∙ ap (λ (k : Numbering). past k more) e
      ∙ sym (past_append first (reading m stream).answers more)
      ∙ ap (λ (x : Reading). past first x.answers) (sym (read_on m stream piece))
