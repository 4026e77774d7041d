-- Worked cases of RC channels (RULES 10) in one table: sixteen channels, and the bytes that they are written as.
-- Assumes nothing.
use Rattle.std.specs.Prelude.{ℕ, List, [], ◌∷◌, ◌++◌, replicate}
use Rattle.channels.specs.declared.RcChannelsPacked.{RcChannelsPacked}

pub record Edge : Type 0 where
  pub channels : RcChannelsPacked
  pub gives : List ℕ

abbrev edge : List ℕ → List ℕ → Edge
edge channels gives = record { channels = record { 0 = channels }; gives = gives }

abbrev pub edges : List Edge
edges =
    edge (2047 ∷ replicate 15 0) (0xFF ∷ 0x07 ∷ replicate 20 0)
    ∷ edge (replicate 15 0 ++ (2047 ∷ [])) (replicate 20 0 ++ (0xE0 ∷ 0xFF ∷ []))
    ∷ []
