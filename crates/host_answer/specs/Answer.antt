-- What every entry answers (RULES 14): eight bytes, which C declares as a struct of eight and a register carries as one number, lowest byte first.
-- Assumes nothing.
use Rattle.std.specs.Prelude.{ℕ, ◌+◌, ◌*◌, ◌%◌, List, [], ◌∷◌, eqb, get_or}
use Rattle.base.specs.Choice.{when◌then◌else◌}
use Rattle.refusals.specs.Row.{row_of}
use Rattle.refusals.specs.declared.Refusal.{Refusal}
use Rattle.host_answer.specs.declared.answer.HostAnswer.{HostAnswer}

-- in the struct's order
abbrev pub eight_bytes : HostAnswer → List ℕ
eight_bytes t = t.number ∷ t.taken ∷ t.in_state ∷ t.at ∷ t.len ∷ t.first ∷ t.second ∷ 0 ∷ []

unfoldable pub lowest_first : List ℕ → ℕ
lowest_first [] = 0
lowest_first (b ∷ bs) = b + 256 * lowest_first bs

abbrev pub packed : HostAnswer → ℕ
packed t = lowest_first (eight_bytes t)

-- a number, what was taken, and what the number carries
abbrev pub answer_number : ℕ → ℕ → ℕ → ℕ → HostAnswer
answer_number n t a b = record { number = n; taken = t; in_state = 0; at = 0; len = 0; first = a; second = b }

-- what was taken, and where a frame stands, or how many bytes were written
abbrev pub answer_place : ℕ → ℕ → ℕ → ℕ → HostAnswer
answer_place t s p l = record { number = 0; taken = t; in_state = s; at = p; len = l; first = 0; second = 0 }

-- only a count: of bytes that were written or are held, or of numbers that were read
abbrev pub answer_count : ℕ → HostAnswer
answer_count n = answer_place 0 0 0 n

-- what was taken, and a refusal's row: its number, and the low byte of each value that it carries
abbrev pub answer_carried : ℕ → List ℕ → HostAnswer
answer_carried t row = answer_number (get_or row 0 0) t (get_or row 1 0 % 256) (get_or row 2 0 % 256)

-- only a refusal
abbrev pub answer_refusal : Refusal → HostAnswer
answer_refusal r = answer_carried 0 (row_of r)

-- any row: 0 and a count, or a refusal's
unfoldable pub answer_row : List ℕ → HostAnswer
answer_row row = when eqb (get_or row 0 0) 0 then answer_count (get_or row 1 0) else answer_carried 0 row

-- .. and what is left of the bytes that were lent to be written
abbrev pub answers : {A : Type 0} → List ℕ × A → ℕ × A
answers x = (packed (answer_row x.0), x.1)

-- with the low byte of each count; the other fields are bytes by their types
abbrev pub in_bytes : HostAnswer → HostAnswer
in_bytes t = record {
  number = t.number;
  taken = t.taken % 256;
  in_state = t.in_state;
  at = t.at % 256;
  len = t.len % 256;
  first = t.first;
  second = t.second;
}
