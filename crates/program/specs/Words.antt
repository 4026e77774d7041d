-- Words of a command line (RULES 13.8).
-- Assumes nothing.
use Rattle.std.specs.Prelude.{ℕ, Bool, ◌&&◌, List, [], ◌∷◌, eqb, leb, length, get_or}

-- a dash, and something behind it
abbrev pub is_option : List ℕ → Bool
is_option word = leb 2 (length word) && eqb (get_or word 0 0) 45

-- the words: -, --help, --version
abbrev pub dash : List ℕ
dash = 45 ∷ []

abbrev pub help_word : List ℕ
help_word = 45 ∷ 45 ∷ 104 ∷ 101 ∷ 108 ∷ 112 ∷ []

abbrev pub version_word : List ℕ
version_word = 45 ∷ 45 ∷ 118 ∷ 101 ∷ 114 ∷ 115 ∷ 105 ∷ 111 ∷ 110 ∷ []
