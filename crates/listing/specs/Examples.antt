-- Inputs and their whole texts, byte by byte (RULES 13): the README's example, a frame with a wrong check byte, nothing, a length byte that is too
-- large, and frames as far as a position of two digits. Each line stands beside what the program where puts before it.
-- Assumes nothing.
use Rattle.std.specs.Prelude.{ℕ, List, [], ◌∷◌, ◌++◌}

pub record Example : Type 0 where
  pub input : List ℕ
  -- what the program list writes, and what where does
  pub text : List ℕ
  pub numbered : List ℕ

abbrev plain : List (List ℕ × List ℕ) → List ℕ
plain [] = []
plain ((n, l) ∷ more) = l ++ plain more

abbrev led : List (List ℕ × List ℕ) → List ℕ
led [] = []
led ((n, l) ∷ more) = n ++ l ++ led more

abbrev example : List ℕ → List (List ℕ × List ℕ) → Example
example input lines = record { input = input; text = plain lines; numbered = led lines }

abbrev pub examples : List Example
examples =
    example (0xC8 ∷ 0x02 ∷ 0x00 ∷ 0x00 ∷ 0x55 ∷ 0xC8 ∷ 0x02 ∷ 0x00 ∷ [])
    -- 0 frame C8 00 0
    (((48 ∷ 32 ∷ []), (102 ∷ 114 ∷ 97 ∷ 109 ∷ 101 ∷ 32 ∷ 67 ∷ 56 ∷ 32 ∷ 48 ∷ 48 ∷ 32 ∷ 48 ∷ 10 ∷ []))
    -- 4 sync 55
    ∷ ((52 ∷ 32 ∷ []), (115 ∷ 121 ∷ 110 ∷ 99 ∷ 32 ∷ 53 ∷ 53 ∷ 10 ∷ []))
    -- 5 held 3
    ∷ ((53 ∷ 32 ∷ []), (104 ∷ 101 ∷ 108 ∷ 100 ∷ 32 ∷ 51 ∷ 10 ∷ []))
    ∷ [])
    ∷ example (0xC8 ∷ 0x02 ∷ 0x00 ∷ 0x01 ∷ [])
    -- 0 crc 00 01
    (((48 ∷ 32 ∷ []), (99 ∷ 114 ∷ 99 ∷ 32 ∷ 48 ∷ 48 ∷ 32 ∷ 48 ∷ 49 ∷ 10 ∷ []))
    -- 1 sync 02
    ∷ ((49 ∷ 32 ∷ []), (115 ∷ 121 ∷ 110 ∷ 99 ∷ 32 ∷ 48 ∷ 50 ∷ 10 ∷ []))
    -- 2 length 01
    ∷ ((50 ∷ 32 ∷ []), (108 ∷ 101 ∷ 110 ∷ 103 ∷ 116 ∷ 104 ∷ 32 ∷ 48 ∷ 49 ∷ 10 ∷ []))
    -- 3 sync 01
    ∷ ((51 ∷ 32 ∷ []), (115 ∷ 121 ∷ 110 ∷ 99 ∷ 32 ∷ 48 ∷ 49 ∷ 10 ∷ []))
    -- 4 held 0
    ∷ ((52 ∷ 32 ∷ []), (104 ∷ 101 ∷ 108 ∷ 100 ∷ 32 ∷ 48 ∷ 10 ∷ []))
    ∷ [])
    ∷ example ([])
    -- 0 held 0
    (((48 ∷ 32 ∷ []), (104 ∷ 101 ∷ 108 ∷ 100 ∷ 32 ∷ 48 ∷ 10 ∷ []))
    ∷ [])
    ∷ example (0xC8 ∷ 0x3F ∷ [])
    -- 0 length 3F
    (((48 ∷ 32 ∷ []), (108 ∷ 101 ∷ 110 ∷ 103 ∷ 116 ∷ 104 ∷ 32 ∷ 51 ∷ 70 ∷ 10 ∷ []))
    -- 1 sync 3F
    ∷ ((49 ∷ 32 ∷ []), (115 ∷ 121 ∷ 110 ∷ 99 ∷ 32 ∷ 51 ∷ 70 ∷ 10 ∷ []))
    -- 2 held 0
    ∷ ((50 ∷ 32 ∷ []), (104 ∷ 101 ∷ 108 ∷ 100 ∷ 32 ∷ 48 ∷ 10 ∷ []))
    ∷ [])
    ∷ example (0xC8 ∷ 0x02 ∷ 0x00 ∷ 0x00 ∷ 0xC8 ∷ 0x02 ∷ 0x00 ∷ 0x00 ∷ 0xC8 ∷ 0x02 ∷ 0x00 ∷ 0x00 ∷ 0xEA ∷ [])
    -- 0 frame C8 00 0
    (((48 ∷ 32 ∷ []), (102 ∷ 114 ∷ 97 ∷ 109 ∷ 101 ∷ 32 ∷ 67 ∷ 56 ∷ 32 ∷ 48 ∷ 48 ∷ 32 ∷ 48 ∷ 10 ∷ []))
    -- 4 frame C8 00 0
    ∷ ((52 ∷ 32 ∷ []), (102 ∷ 114 ∷ 97 ∷ 109 ∷ 101 ∷ 32 ∷ 67 ∷ 56 ∷ 32 ∷ 48 ∷ 48 ∷ 32 ∷ 48 ∷ 10 ∷ []))
    -- 8 frame C8 00 0
    ∷ ((56 ∷ 32 ∷ []), (102 ∷ 114 ∷ 97 ∷ 109 ∷ 101 ∷ 32 ∷ 67 ∷ 56 ∷ 32 ∷ 48 ∷ 48 ∷ 32 ∷ 48 ∷ 10 ∷ []))
    -- 12 held 1
    ∷ ((49 ∷ 50 ∷ 32 ∷ []), (104 ∷ 101 ∷ 108 ∷ 100 ∷ 32 ∷ 49 ∷ 10 ∷ []))
    ∷ [])
    ∷ []
