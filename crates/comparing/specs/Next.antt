-- What the code finds first in what is left of an upload, and whether two such agree.
-- Assumes nothing.
use Rattle.std.specs.Prelude.{ℕ, ◌≤◌, ◌≡◌, Bool, true, false, ◌&&◌, List, [], ◌∷◌, eqb, length}
use Rattle.refusals.specs.Row.{row_of}
use Rattle.refusals.specs.declared.Row.{Row}
use Rattle.reading.specs.Reading.{limit, stops, first}
use Rattle.reading.specs.Call.{dropped_by}
use Rattle.reading.specs.History.{answered}
use Rattle.stream.specs.Step.{said_of, meaning_of, asks_for_more}
use Rattle.stream.specs.declared.step.Reply.{Reply}
use Rattle.stream.specs.declared.step.Reply.TheVariants.{More, Frame, Refused}
use Rattle.lines.specs.Lines.{lines_of}
use Rattle.lines.specs.Put.{line_by}
use Rattle.comparing.specs.declared.next.Next.{Next}

-- what the reading has first in the input, with nothing held: so a frame lies in it
pub record Finds (input : List ℕ) (r : Next) : Type 0 where
  pub said : meaning_of r.reply input [] ≡ said_of false (first limit input)
  pub asks : asks_for_more r.reply ≡ stops (first limit input)
  pub size_is : r.size ≡ dropped_by (first limit input)
  pub inside : r.size ≤ length input
  pub line_is : line_by r.reply input [] ≡ lines_of (answered (first limit input))

-- number and values, but of a frame the number alone; 255 where there is no answer
abbrev pub head_of : Reply → List ℕ
head_of More = 255 ∷ []
head_of (Frame p) = 0 ∷ []
head_of (Refused r) = row_of r

abbrev pub same_row : Row → Row → Bool
same_row x y = eqb x.number y.number && (eqb x.first y.first && eqb x.second y.second)

abbrev pub is_frame : Reply → Bool
is_frame More = false
is_frame (Frame p) = true
is_frame (Refused r) = false

-- there is an answer, and the right upload goes on with the same, of as many bytes
pub record Again (left right : List ℕ) (r : Next) : Type 0 where
  pub some : stops (first limit left) ≡ false
  pub same : first limit right ≡ first limit left
  pub inside : r.size ≤ length right
