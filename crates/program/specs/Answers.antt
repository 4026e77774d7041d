-- What one argument asks for, and the status of a text that was printed (RULES 13.8).
-- Assumes nothing.
use Rattle.std.specs.Prelude.{ℕ, ◌≤◌, Bool, List, length}
use Rattle.std.specs.Borrow.{Bor}
use Rattle.base.specs.Choice.{when◌then◌else◌}
use Rattle.base.specs.Same.{same_bytes}
use Rattle.program.specs.Words.{is_option, dash, help_word, version_word}
use Rattle.program.specs.declared.argument.Asked.{Asked}
use Rattle.program.specs.declared.argument.Asked.TheVariants.{Input, File, Help, Version, Failed, Refused}

-- standard input, help, the version; no other option; else a file of that name
unfoldable pub asked_by : Bor (List ℕ) → Asked
asked_by word =
    when same_bytes word.now dash then Input else
    when same_bytes word.now help_word then Help else
    when same_bytes word.now version_word then Version else
    when is_option word.now then Refused else
    File word

-- a file's name has no more bytes than the buffer that it came to
abbrev pub NamesWithin : ℕ → Asked → Type 0
NamesWithin room Input = Unit {0}
NamesWithin room (File name) = length name.now ≤ room
NamesWithin room Help = Unit {0}
NamesWithin room Version = Unit {0}
NamesWithin room Failed = Unit {0}
NamesWithin room Refused = Unit {0}

-- 0 only where all of it was written
abbrev pub printed : Bool → ℕ
printed all = when all then 0 else 1
