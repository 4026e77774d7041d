-- What a save and a restore of a lent parser promise: what the forms by value do, of the parser at entry and the parser at exit (RULES 6.8).
-- Assumes nothing.
use Rattle.std.specs.Prelude.{◌≡◌, List, ℕ}
use Rattle.writing.specs.Writing.{Written}
use Rattle.writing.specs.Writing.{written_row, write_of}
use Rattle.parser.specs.declared.CrsfParser.{CrsfParser}
use Rattle.saved.specs.Save.{Restored}
use Rattle.saved.specs.Save.{save_image, restored_row}
use Rattle.saved.specs.Parser.{resume_of}

-- the parser, the buffer at entry, what is answered, and the buffer at exit
abbrev pub Saves : CrsfParser → List ℕ → Written → List ℕ → Type 0
Saves p out r after = (written_row r, after) ≡ write_of (save_image p.buffer p.start p.end p.position) out

-- the parser at entry, the form, the parser at exit, and what is answered
abbrev pub Resumes : CrsfParser → List ℕ → CrsfParser → Restored → Type 0
Resumes p form q r = (restored_row r, q) ≡ resume_of p form
