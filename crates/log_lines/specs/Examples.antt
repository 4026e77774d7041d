-- Logs and their whole texts, byte by byte (RULES 16): two entries; the number 1 alone; an entry that is cut; a frame with a wrong check byte; nothing.
-- Assumes nothing.
use Rattle.std.specs.Prelude.{ℕ, List, [], ◌∷◌, ◌++◌}

pub record Example : Type 0 where
  pub log : List ℕ
  pub text : List ℕ

abbrev joined : List (List ℕ) → List ℕ
joined [] = []
joined (l ∷ more) = l ++ joined more

abbrev example : List ℕ → List (List ℕ) → Example
example log lines = record { log = log; text = joined lines }

-- refused 9
abbrev refused9 : List ℕ
refused9 = 114 ∷ 101 ∷ 102 ∷ 117 ∷ 115 ∷ 101 ∷ 100 ∷ 32 ∷ 57 ∷ 10 ∷ []

-- end
abbrev end : List ℕ
end = 101 ∷ 110 ∷ 100 ∷ 10 ∷ []

-- 0 frame C8 00 0
abbrev at_once : List ℕ
at_once = 48 ∷ 32 ∷ 102 ∷ 114 ∷ 97 ∷ 109 ∷ 101 ∷ 32 ∷ 67 ∷ 56 ∷ 32 ∷ 48 ∷ 48 ∷ 32 ∷ 48 ∷ 10 ∷ []

abbrev pub examples : List Example
examples =
    example (1 ∷ 0 ∷ 4 ∷ 0xC8 ∷ 2 ∷ 0 ∷ 0 ∷ 0x80 ∷ 1 ∷ 4 ∷ 0xC8 ∷ 2 ∷ 0 ∷ 0 ∷ [])
    (at_once
    -- 128 frame C8 00 0
    ∷ (49 ∷ 50 ∷ 56 ∷ 32 ∷ 102 ∷ 114 ∷ 97 ∷ 109 ∷ 101 ∷ 32 ∷ 67 ∷ 56 ∷ 32 ∷ 48 ∷ 48 ∷ 32 ∷ 48 ∷ 10 ∷ [])
    ∷ end
    ∷ [])
    ∷ example (1 ∷ []) (end ∷ [])
    ∷ example (1 ∷ 0 ∷ 4 ∷ 0xC8 ∷ 2 ∷ 0 ∷ 0 ∷ 5 ∷ 4 ∷ 0xC8 ∷ 2 ∷ []) (at_once ∷ refused9 ∷ [])
    ∷ example (1 ∷ 0 ∷ 4 ∷ 0xC8 ∷ 2 ∷ 0 ∷ 0 ∷ 0 ∷ 4 ∷ 0xC8 ∷ 2 ∷ 0 ∷ 1 ∷ 0 ∷ 4 ∷ [])
    (at_once
    -- refused 10
    ∷ (114 ∷ 101 ∷ 102 ∷ 117 ∷ 115 ∷ 101 ∷ 100 ∷ 32 ∷ 49 ∷ 48 ∷ 10 ∷ [])
    ∷ [])
    ∷ example [] (refused9 ∷ [])
    ∷ []
