-- The lines of the answers to the held bytes and then an input, as many as there is room for (RULES 13).
-- Assumes nothing.
use Rattle.std.specs.Prelude.{ℕ, ◌+◌, ◌-◌, Bool, true, false, List, [], ◌∷◌, ◌++◌, ltb, length, drop}
use Rattle.base.specs.Choice.{when◌then◌else◌}
use Rattle.reading.specs.Answer.{Answer}
use Rattle.reading.specs.Reading.{reading}
use Rattle.reading.specs.Call.{call}
use Rattle.lines.specs.Lines.{line}
use Rattle.listing.specs.Numbering.{Numbering, lead, past, room_for}

pub record Listing : Type 0 where
  -- the bytes written
  pub lines : List ℕ
  -- how many bytes of the input were taken
  pub taken : ℕ
  -- the bytes held afterwards
  pub held : List ℕ
  -- all answers are given, and more input is asked for; else room for more lines is
  pub asks : Bool
  -- the numbering of the next line
  pub next : Numbering

-- some lines and taken bytes, and then a listing
abbrev pub after : List ℕ → ℕ → Listing → Listing
after lines taken more = record {
  lines = lines ++ more.lines;
  taken = taken + more.taken;
  held = more.held;
  asks = more.asks;
  next = more.next;
}

abbrev pub full : Numbering → List ℕ → Listing
full n held = record { lines = []; taken = 0; held = held; asks = false; next = n }

abbrev pub asking : Numbering → List ℕ → List ℕ → Listing
asking n held input = record { lines = []; taken = length input; held = held ++ input; asks = true; next = n }

-- the answers that are to come, by whose list the definition ends, are given one by one, each by a call, while there is room for the longest line
unfoldable pub list_from : ℕ → Numbering → List Answer → List ℕ → List ℕ → ℕ → Listing
list_from m n [] held input room = when ltb room (room_for n) then full n held else asking n held input
list_from m n (a ∷ more) held input room =
    when ltb room (room_for n) then full n held else
    (let c = call m held input in let l = lead n ++ line a in
    after l c.taken (list_from m (past n (a ∷ [])) more c.held (drop c.taken input) (room - length l)))

-- the listing of the held bytes and then the input
unfoldable pub list_of : ℕ → Numbering → List ℕ → List ℕ → ℕ → Listing
list_of m n held input room = list_from m n (reading m (held ++ input)).answers held input room
