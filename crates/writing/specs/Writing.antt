-- What every writer promises (docs/RULES.md, 2): all of its bytes at the front of the buffer and every byte behind them kept, or a refusal, and then no
-- byte is changed.
-- Assumes nothing.
use Rattle.std.specs.Prelude.{ℕ, List, [], ◌∷◌, leb, length, Ok, Err, Result}
use Rattle.base.specs.Choice.{when◌then◌else◌}
use Rattle.base.specs.Parts.{pasted}
use Rattle.refusals.specs.Row.{row_of}
use Rattle.refusals.specs.declared.Refusal.{Refusal}
use Rattle.refusals.specs.declared.Refusal.TheVariants.{BufferOverflow}

-- how many bytes were written, or a refusal: then no byte was
abbrev pub Written : Type 0
Written = Result ℕ Refusal

-- what a writer says, as a row: 0 and how many bytes it wrote, or the refusal's number and what it carries
abbrev pub wrote_row : ℕ → List ℕ
wrote_row n = 0 ∷ n ∷ []

unfoldable pub written_row : Written → List ℕ
written_row (Ok n) = wrote_row n
written_row (Err r) = row_of r

-- what there is to write: bytes, or the refusal that is answered instead, whatever the buffer
pub data Image : Type 0 where
  bytes : List ℕ → Image
  refused : Refusal → Image

-- what is said, and the buffer afterwards
unfoldable pub write_of : Image → List ℕ → List ℕ × List ℕ
write_of (bytes bs) buffer = when leb (length bs) (length buffer) then (wrote_row (length bs), pasted buffer 0 bs) else (row_of BufferOverflow, buffer)
write_of (refused r) buffer = (row_of r, buffer)
