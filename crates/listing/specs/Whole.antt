-- The whole listing of an input.
-- Assumes nothing.
use Rattle.std.specs.Prelude.{ℕ, Bool, true, false, not, List, [], ◌∷◌, ◌++◌, eqb, length}
use Rattle.reading.specs.Reading.{reading}
use Rattle.reading.specs.Positions.{behind, numbered}
use Rattle.lines.specs.Lines.{lines_of, held_line, leading}
use Rattle.listing.specs.Numbering.{Numbering, past, numbered_lines, text_of, last_line}

-- all that the program list writes for an input
abbrev pub whole_listing : ℕ → List ℕ → List ℕ
whole_listing m stream = let r = reading m stream in lines_of r.answers ++ held_line (length r.tail)

-- all that the program where writes: each line begins with the position of its answer, and the last with that of the first held byte
abbrev pub whole_where : ℕ → List ℕ → List ℕ
whole_where m stream =
    let r = reading m stream in
    numbered_lines (numbered 0 r.answers) ++ (leading (behind 0 r.answers) ++ held_line (length r.tail))

-- both, by the numbering
abbrev pub whole_text : Numbering → ℕ → List ℕ → List ℕ
whole_text n m stream = let r = reading m stream in text_of n r.answers ++ last_line (past n r.answers) (length r.tail)

-- a text without the first word of each line and the space behind it, byte by byte: at a line's start a byte is dropped, up to the space; then it is
-- kept, up to the line's end
unfoldable pub shortened : Bool → List ℕ → List ℕ
shortened started [] = []
shortened false (b ∷ more) = shortened (eqb b 32) more
shortened true (b ∷ more) = b ∷ shortened (not (eqb b 10)) more

abbrev pub unnumbered : List ℕ → List ℕ
unnumbered = shortened false
