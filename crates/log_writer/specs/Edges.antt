-- Entries as bytes, at both sides of each number that the writer turns on (RULES 16.11): one table, which proofs/Edges computes.
-- Assumes nothing.
use Rattle.std.specs.Prelude.{ℕ, List, [], ◌∷◌, ◌++◌, replicate}
use Rattle.refusals.specs.declared.Refusal.TheVariants.{InvalidFrame}
use Rattle.writing.specs.Writing.{Image, bytes, refused}

pub record Edge : Type 0 where
  pub seconds : ℕ
  pub frame : List ℕ
  pub image : Image

abbrev wrote : ℕ → List ℕ → List ℕ → Edge
wrote t frame image = record { seconds = t; frame = frame; image = bytes image }

abbrev invalid : List ℕ → Edge
invalid frame = record { seconds = 0; frame = frame; image = refused InvalidFrame }

-- the shortest frame
abbrev pub ping : List ℕ
ping = 0xC8 ∷ 2 ∷ 0 ∷ 0 ∷ []

-- n zeros behind an address and a length byte; the check byte of zeros is 0
abbrev zeros : ℕ → ℕ → List ℕ
zeros l n = 0xC8 ∷ l ∷ replicate n 0

abbrev pub edges : List Edge
edges =
    -- seconds: 0, 127, 128 (2^32 - 1 is `greatest_seconds` of proofs/Edges)
    wrote 0 ping (0 ∷ 4 ∷ ping)
    ∷ wrote 127 ping (0x7F ∷ 4 ∷ ping)
    ∷ wrote 128 ping (0x80 ∷ 0x01 ∷ 4 ∷ ping)
    -- frames of 64 bytes and of 65; of 3 and of none
    ∷ wrote 0 (zeros 62 62) (0 ∷ 64 ∷ zeros 62 62)
    ∷ invalid (zeros 63 63)
    ∷ invalid (zeros 1 1)
    ∷ invalid []
    -- an unlisted address; a length byte that is not the frame's; a wrong check byte; a byte behind the frame
    ∷ invalid (0xC7 ∷ 2 ∷ 0 ∷ 0 ∷ [])
    ∷ invalid (0xC8 ∷ 3 ∷ 0 ∷ 0 ∷ [])
    ∷ invalid (0xC8 ∷ 2 ∷ 0 ∷ 1 ∷ [])
    ∷ invalid (ping ++ 0 ∷ [])
    ∷ []
