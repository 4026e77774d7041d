-- Pairs of uploads and their whole texts, byte by byte (RULES 19): C8 02 00 00 beside C8 02 00 01; a tail beside nothing; another tail beside an
-- upload that goes on; tails of as many bytes; payloads that differ under equal lines; and refusals that agree behind different addresses.
-- Assumes nothing.
use Rattle.std.specs.Prelude.{ℕ, List, [], ◌∷◌, ◌++◌}

pub record Example : Type 0 where
  pub left : List ℕ
  pub right : List ℕ
  pub text : List ℕ

abbrev joined : List (List ℕ) → List ℕ
joined [] = []
joined (l ∷ more) = l ++ joined more

abbrev example : List ℕ → List ℕ → List (List ℕ) → Example
example left right lines = record { left = left; right = right; text = joined lines }

abbrev pub examples : List Example
examples =
    example (0xC8 ∷ 0x02 ∷ 0x00 ∷ 0x00 ∷ []) (0xC8 ∷ 0x02 ∷ 0x00 ∷ 0x01 ∷ [])
    -- 1 frame C8 00 0 | crc 00 01
    ((49 ∷ 32 ∷ 102 ∷ 114 ∷ 97 ∷ 109 ∷ 101 ∷ 32 ∷ 67 ∷ 56 ∷ 32 ∷ 48 ∷ 48 ∷ 32 ∷ 48 ∷ 32 ∷ 124 ∷ 32 ∷ 99 ∷ 114 ∷ 99 ∷ 32 ∷ 48 ∷ 48 ∷ 32 ∷ 48 ∷ 49 ∷ 10 ∷ [])
    -- 2 - | sync 02
    ∷ (50 ∷ 32 ∷ 45 ∷ 32 ∷ 124 ∷ 32 ∷ 115 ∷ 121 ∷ 110 ∷ 99 ∷ 32 ∷ 48 ∷ 50 ∷ 10 ∷ [])
    -- 3 - | length 01
    ∷ (51 ∷ 32 ∷ 45 ∷ 32 ∷ 124 ∷ 32 ∷ 108 ∷ 101 ∷ 110 ∷ 103 ∷ 116 ∷ 104 ∷ 32 ∷ 48 ∷ 49 ∷ 10 ∷ [])
    -- 4 - | sync 01
    ∷ (52 ∷ 32 ∷ 45 ∷ 32 ∷ 124 ∷ 32 ∷ 115 ∷ 121 ∷ 110 ∷ 99 ∷ 32 ∷ 48 ∷ 49 ∷ 10 ∷ [])
    -- agree 1 differ 4
    ∷ (97 ∷ 103 ∷ 114 ∷ 101 ∷ 101 ∷ 32 ∷ 49 ∷ 32 ∷ 100 ∷ 105 ∷ 102 ∷ 102 ∷ 101 ∷ 114 ∷ 32 ∷ 52 ∷ 10 ∷ [])
    ∷ [])
    ∷ example (0xC8 ∷ 0x02 ∷ 0x00 ∷ []) ([])
    -- tail held 3 | held 0
    ((116 ∷ 97 ∷ 105 ∷ 108 ∷ 32 ∷ 104 ∷ 101 ∷ 108 ∷ 100 ∷ 32 ∷ 51 ∷ 32 ∷ 124 ∷ 32 ∷ 104 ∷ 101 ∷ 108 ∷ 100 ∷ 32 ∷ 48 ∷ 10 ∷ [])
    -- agree 0 differ 1
    ∷ (97 ∷ 103 ∷ 114 ∷ 101 ∷ 101 ∷ 32 ∷ 48 ∷ 32 ∷ 100 ∷ 105 ∷ 102 ∷ 102 ∷ 101 ∷ 114 ∷ 32 ∷ 49 ∷ 10 ∷ [])
    ∷ [])
    ∷ example (0x55 ∷ []) (0xC8 ∷ [])
    -- 1 sync 55 | -
    ((49 ∷ 32 ∷ 115 ∷ 121 ∷ 110 ∷ 99 ∷ 32 ∷ 53 ∷ 53 ∷ 32 ∷ 124 ∷ 32 ∷ 45 ∷ 10 ∷ [])
    -- tail held 0 | held 1
    ∷ (116 ∷ 97 ∷ 105 ∷ 108 ∷ 32 ∷ 104 ∷ 101 ∷ 108 ∷ 100 ∷ 32 ∷ 48 ∷ 32 ∷ 124 ∷ 32 ∷ 104 ∷ 101 ∷ 108 ∷ 100 ∷ 32 ∷ 49 ∷ 10 ∷ [])
    -- agree 0 differ 2
    ∷ (97 ∷ 103 ∷ 114 ∷ 101 ∷ 101 ∷ 32 ∷ 48 ∷ 32 ∷ 100 ∷ 105 ∷ 102 ∷ 102 ∷ 101 ∷ 114 ∷ 32 ∷ 50 ∷ 10 ∷ [])
    ∷ [])
    ∷ example (0xC8 ∷ 0x02 ∷ 0x00 ∷ []) (0xC8 ∷ 0x03 ∷ 0x00 ∷ [])
    -- tail held 3 | held 3
    ((116 ∷ 97 ∷ 105 ∷ 108 ∷ 32 ∷ 104 ∷ 101 ∷ 108 ∷ 100 ∷ 32 ∷ 51 ∷ 32 ∷ 124 ∷ 32 ∷ 104 ∷ 101 ∷ 108 ∷ 100 ∷ 32 ∷ 51 ∷ 10 ∷ [])
    -- agree 0 differ 1
    ∷ (97 ∷ 103 ∷ 114 ∷ 101 ∷ 101 ∷ 32 ∷ 48 ∷ 32 ∷ 100 ∷ 105 ∷ 102 ∷ 102 ∷ 101 ∷ 114 ∷ 32 ∷ 49 ∷ 10 ∷ [])
    ∷ [])
    ∷ example (0xC8 ∷ 0x04 ∷ 0x00 ∷ 0x00 ∷ 0x00 ∷ 0x00 ∷ []) (0xC8 ∷ 0x04 ∷ 0x00 ∷ 0x00 ∷ 0x01 ∷ 0xD5 ∷ [])
    -- 1 frame C8 00 2 | frame C8 00 2
    ((49 ∷ 32 ∷ 102 ∷ 114 ∷ 97 ∷ 109 ∷ 101 ∷ 32 ∷ 67 ∷ 56 ∷ 32 ∷ 48 ∷ 48 ∷ 32 ∷ 50 ∷ 32 ∷ 124 ∷ 32 ∷ 102 ∷ 114 ∷ 97 ∷ 109 ∷ 101 ∷ 32 ∷ 67 ∷ 56 ∷ 32 ∷ 48 ∷ 48 ∷ 32 ∷ 50 ∷ 10 ∷ [])
    -- agree 1 differ 1
    ∷ (97 ∷ 103 ∷ 114 ∷ 101 ∷ 101 ∷ 32 ∷ 49 ∷ 32 ∷ 100 ∷ 105 ∷ 102 ∷ 102 ∷ 101 ∷ 114 ∷ 32 ∷ 49 ∷ 10 ∷ [])
    ∷ [])
    ∷ example (0xEA ∷ 0x3F ∷ []) (0xEE ∷ 0x3F ∷ [])
    -- agree 3 differ 0
    ((97 ∷ 103 ∷ 114 ∷ 101 ∷ 101 ∷ 32 ∷ 51 ∷ 32 ∷ 100 ∷ 105 ∷ 102 ∷ 102 ∷ 101 ∷ 114 ∷ 32 ∷ 48 ∷ 10 ∷ [])
    ∷ [])
    ∷ []
