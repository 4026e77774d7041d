-- A write of n bytes, by whether they fit; and a refusal.
-- Assumes nothing.
use Rattle.std.specs.Prelude.{Ok, Err}
use Prim.Native.Nat.{ℕ, ◌≤◌, ◌<◌}
use mathlib.Core.Path.{◌≡◌, refl}
use mathlib.Core.List.{List}
use lib.ListN.{length}
use borrow.Author.Tests.{le-leb, lt-leb}
use Rattle.base.specs.Parts.{pasted}
use Rattle.refusals.specs.declared.Refusal.{Refusal}
use Rattle.refusals.specs.declared.Refusal.TheVariants.{BufferOverflow}
use Rattle.writing.specs.Writing.{bytes, refused, written_row, write_of}

module _ (bs buffer : List ℕ) (n : ℕ) (long : length bs ≡ n) where
  pub writes : n ≤ length buffer → (written_row (Ok n), pasted buffer 0 bs) ≡ write_of (bytes bs) buffer
  unfolding write_of written_row
  writes h = simp (long, le-leb n (length buffer) h)

  pub overflows : length buffer < n → (written_row (Err BufferOverflow), buffer) ≡ write_of (bytes bs) buffer
  unfolding write_of written_row
  overflows h = simp (long, lt-leb n (length buffer) h)

pub refuses : (r : Refusal) (buffer : List ℕ) → (written_row (Err r), buffer) ≡ write_of (refused r) buffer
unfolding write_of written_row
refuses r buffer = refl
