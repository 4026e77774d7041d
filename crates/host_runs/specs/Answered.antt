-- What a host reads off the eight bytes of an answer (RULES 14).
-- Assumes nothing.
use Rattle.std.specs.Prelude.{ℕ, ◌%◌, List, [], ◌∷◌, eqb, ltb, get_or}
use Rattle.base.specs.Choice.{when◌then◌else◌}
use Rattle.base.specs.Parts.{part}
use Rattle.host_answer.specs.Reply.{more_number}
use Rattle.host_answer.specs.Seen.{unpacked}

-- the bytes by name, as the header has them
abbrev pub byte_in : ℕ → ℕ → ℕ
byte_in answer i = get_or (unpacked 8 answer) i 0

abbrev pub number_in : ℕ → ℕ
number_in answer = byte_in answer 0

abbrev pub taken_in : ℕ → ℕ
taken_in answer = byte_in answer 1

abbrev pub len_in : ℕ → ℕ
len_in answer = byte_in answer 4

-- the bytes of a frame: `at` and `len` in the state or in the input
abbrev pub frame_in : ℕ → List ℕ → List ℕ → List ℕ
frame_in answer input state = part (when eqb (byte_in answer 2) 1 then state else input) (byte_in answer 3) (len_in answer)

-- what a call of the stream says, given its input and the state afterwards: nothing where it asks for more; 0 and a frame's bytes; or the number of a
-- refusal and two values, which are 0 where it carries fewer
unfoldable pub said_in : ℕ → List ℕ → List ℕ → List (List ℕ)
said_in answer input state =
    when eqb (number_in answer) more_number then [] else
    when eqb (number_in answer) 0 then (0 ∷ frame_in answer input state) ∷ [] else
    (number_in answer ∷ byte_in answer 5 ∷ byte_in answer 6 ∷ []) ∷ []

-- where it began, given the slice afterwards: the first number of it, where the answer says so
unfoldable pub told_in : ℕ → List ℕ → List ℕ
told_in answer slice = when ltb (number_in answer) 4 then get_or slice 0 0 ∷ [] else []

-- the same of an answer of the reading, from its row: 0 and a frame's bytes; or a refusal's number and what it carries, each value by its low byte (what a
-- framing refusal carries are bytes)
unfoldable pub said_by : List ℕ → List ℕ
said_by row = when eqb (get_or row 0 0) 0 then row else get_or row 0 0 ∷ get_or row 1 0 % 256 ∷ get_or row 2 0 % 256 ∷ []
