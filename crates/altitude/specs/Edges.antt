-- Worked cases of altitudes (RULES 11), from both sides of each edge.
-- Assumes nothing.
use Rattle.std.specs.Prelude.{ℕ, List, [], ◌∷◌, ℤ, pos}

-- decimetres, and what they pack to
abbrev pub pack_edges : List (ℤ × ℕ)
pack_edges = (pos 22767, 0x7FFF) ∷ (pos 22768, 0x88E5) ∷ (pos 327655, 0xFFFE) ∷ (pos 327656, 0xFFFE) ∷ []

-- what a record carries, and the decimetres that it reads as
abbrev pub read_edges : List (ℕ × ℤ)
read_edges = (0xFFFF, pos 327670) ∷ []
