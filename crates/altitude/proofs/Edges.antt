-- Every edge of the tables is so.
-- Assumes nothing.
use Prim.Native.Nat.{ℕ}
use mathlib.Core.Path.{◌≡◌, refl}
use mathlib.Core.List.{map}
use lib.IntN.{ℤ}
use Rattle.altitude.specs.Altitude.{pack_of, decimetres_of}
use Rattle.altitude.specs.Edges.{pack_edges, read_edges}

pub packs_hold : map (λ (e : ℤ × ℕ). pack_of e.0) pack_edges ≡ map (λ (e : ℤ × ℕ). e.1) pack_edges
unfolding pack_of
packs_hold = refl

pub reads_hold : map (λ (e : ℕ × ℤ). decimetres_of e.0) read_edges ≡ map (λ (e : ℕ × ℤ). e.1) read_edges
unfolding decimetres_of
reads_hold = refl
