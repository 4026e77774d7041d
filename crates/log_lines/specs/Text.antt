-- The lines of a log (RULES 16): one for each entry, its seconds and then the listing's line of its frame; and a last one for how the log ended.
-- Assumes nothing.
use Rattle.std.specs.Prelude.{ℕ, List, [], ◌∷◌, ◌++◌, eqb, Ok, Err}
use Rattle.base.specs.Choice.{when◌then◌else◌}
use Rattle.refusals.specs.Row.{number_of}
use Rattle.refusals.specs.declared.Refusal.{Refusal}
use Rattle.lines.specs.Lines.{leading, spaced_decimal, line_end, frame_line_at}
use Rattle.kit_log.specs.Entry.{Entry}
use Rattle.kit_log.specs.Reading.{State, read_from, reading, finish}
use Rattle.log_reader.specs.Reader.{ending_of}
use Rattle.log_reader.specs.Reader.{Ending}

-- the seconds, a space, and the line of the frame that its first three bytes say
unfoldable pub entry_line : Entry → List ℕ
entry_line e = leading e.seconds ++ frame_line_at e.frame 0

unfoldable pub entry_lines : List Entry → List ℕ
entry_lines [] = []
entry_lines (e ∷ es) = entry_line e ++ entry_lines es

-- no line of an entry is longer: ten digits, a space, and a frame's line
abbrev pub longest_entry : ℕ
longest_entry = 27

-- the words: end, refused
abbrev pub end_word : List ℕ
end_word = 101 ∷ 110 ∷ 100 ∷ []

abbrev pub refused_word : List ℕ
refused_word = 114 ∷ 101 ∷ 102 ∷ 117 ∷ 115 ∷ 101 ∷ 100 ∷ []

-- a log is refused with 9 or 10, and with nothing else
unfoldable pub refusal_line : Refusal → List ℕ
refusal_line r =
    when eqb (number_of r) 9 then refused_word ++ spaced_decimal 9 ++ line_end else
    when eqb (number_of r) 10 then refused_word ++ spaced_decimal 10 ++ line_end else []

unfoldable pub ending_line : Ending → List ℕ
ending_line (Ok tt) = end_word ++ line_end
ending_line (Err r) = refusal_line r

-- the last line, where the log ends at a state
abbrev pub last_line : State → List ℕ
last_line st = ending_line (ending_of (finish st))

-- all that the program writes for a log
abbrev pub whole_text : List ℕ → List ℕ
whole_text s = let r = reading s in entry_lines r.entries ++ last_line r.state

-- the same, part by part
unfoldable pub text_from : State → List (List ℕ) → List ℕ
text_from st [] = last_line st
text_from st (part ∷ parts) = let r = read_from st part in entry_lines r.entries ++ text_from r.state parts
