-- Both sides of each number that a log turns on (RULES 16): one table, which proofs/Edges computes.
-- Assumes nothing.
use Rattle.std.specs.Prelude.{ℕ, List, [], ◌∷◌, ◌++◌, map}
use Rattle.refusals.specs.Row.{number_of}
use Rattle.kit_log.specs.Entry.{Entry}
use Rattle.kit_log.specs.Reading.{State, number, frame, refused, ended, reading, finish}

-- an end's number: 0 where the log may end
abbrev pub end_number : State → ℕ
end_number (number want v w) = 0
end_number (frame s n h) = 0
end_number (refused r) = number_of r
end_number ended = 0

-- what is shown of a reading: the seconds of its entries, how many bytes were taken, and what an end says there
pub record Shown : Type 0 where
  pub entries : List ℕ
  pub taken : ℕ
  pub end : ℕ

abbrev pub shown : List ℕ → Shown
shown s = record {
  entries = map (λ (e : Entry). e.seconds) (reading s).entries;
  taken = (reading s).taken;
  end = end_number (finish (reading s).state);
}

pub record Edge : Type 0 where
  pub input : List ℕ
  pub gives : Shown

abbrev edge : List ℕ → List ℕ → ℕ → ℕ → Edge
edge input entries taken end = record { input = input; gives = record { entries = entries; taken = taken; end = end } }

-- the shortest frame, with its length in front
abbrev pub ping : List ℕ
ping = 4 ∷ 0xC8 ∷ 2 ∷ 0 ∷ 0 ∷ []

abbrev pub edges : List Edge
edges =
    -- before the 1, and the 1 alone; another first number; a malformed one
    edge [] [] 0 9
    ∷ edge (1 ∷ []) [] 1 0
    ∷ edge (2 ∷ 7 ∷ []) [] 1 9
    ∷ edge (0x81 ∷ 0 ∷ []) [] 2 9
    ∷ edge (0x81 ∷ []) [] 1 9
    -- seconds: 0, 127, 128, 2^32 - 1; 2^32; a 0 behind another group; five groups that say that another follows
    ∷ edge (1 ∷ 0 ∷ ping) (0 ∷ []) 7 0
    ∷ edge (1 ∷ 0x7F ∷ ping) (127 ∷ []) 7 0
    ∷ edge (1 ∷ 0x80 ∷ 1 ∷ ping) (128 ∷ []) 8 0
    ∷ edge (1 ∷ 0xFF ∷ 0xFF ∷ 0xFF ∷ 0xFF ∷ 0x0F ∷ ping) (4294967295 ∷ []) 11 0
    ∷ edge (1 ∷ 0x80 ∷ 0x80 ∷ 0x80 ∷ 0x80 ∷ 0x10 ∷ ping) [] 6 9
    ∷ edge (1 ∷ 0x80 ∷ 0 ∷ ping) [] 3 9
    ∷ edge (1 ∷ 0x80 ∷ 0x80 ∷ 0x80 ∷ 0x80 ∷ 0x80 ∷ 1 ∷ ping) [] 6 9
    -- lengths: 3, 64, 65 (4 is in every `ping`); 3 in a form that is too long is 9 before it is 10
    ∷ edge (1 ∷ 0 ∷ 3 ∷ 0xC8 ∷ []) [] 3 10
    ∷ edge (1 ∷ 0 ∷ 64 ∷ 0xC8 ∷ []) [] 4 9
    ∷ edge (1 ∷ 0 ∷ 65 ∷ 0xC8 ∷ []) [] 3 10
    ∷ edge (1 ∷ 0 ∷ 0x83 ∷ 0 ∷ 0xC8 ∷ []) [] 4 9
    -- frames: an unlisted address; a length byte that is not the entry's; a wrong check byte
    ∷ edge (1 ∷ 0 ∷ 4 ∷ 0xC7 ∷ 2 ∷ 0 ∷ 0 ∷ []) [] 4 10
    ∷ edge (1 ∷ 0 ∷ 4 ∷ 0xC8 ∷ 3 ∷ 0 ∷ 0 ∷ []) [] 5 10
    ∷ edge (1 ∷ 0 ∷ 4 ∷ 0xC8 ∷ 2 ∷ 0 ∷ 1 ∷ []) [] 7 10
    -- an end inside an entry; a second entry that is refused
    ∷ edge (1 ∷ 0 ∷ 4 ∷ 0xC8 ∷ 2 ∷ 0 ∷ []) [] 6 9
    ∷ edge (1 ∷ 0 ∷ ping ++ 5 ∷ ping) (0 ∷ 5 ∷ []) 13 0
    ∷ edge (1 ∷ 0 ∷ ping ++ 5 ∷ 3 ∷ ping) (0 ∷ []) 9 10
    ∷ []
