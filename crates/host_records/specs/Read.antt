-- Readers of payloads (RULES 14): a record's numbers go to the front of a lent slice, and the answer says how many.
-- Assumes nothing.
use Rattle.std.specs.Prelude.{ℕ, List, ◌++◌, eqb, leb, ℤ, length, get_or, drop, Ok, Err}
use Rattle.base.specs.Choice.{when◌then◌else◌}
use Rattle.refusals.specs.declared.Refusal.TheVariants.{BufferOverflow}
use Rattle.layout.specs.Decoded.{Decoded, decoded, refused}
use Rattle.channels.specs.declared.RcChannelsPacked.{RcChannelsPacked}
use Rattle.series.specs.Series.{Read}
use Rattle.host_answer.specs.declared.answer.HostAnswer.{HostAnswer}
use Rattle.host_answer.specs.Answer.{packed, answer_count, answer_refusal, answer_row, in_bytes}

-- the numbers at the front and everything past them kept, or refused for want of room, and all of it kept
unfoldable pub given : {A : Type 0} → HostAnswer → List A → List A → ℕ × List A
given answer vs out =
    when leb (length vs) (length out) then (packed answer, vs ++ drop (length vs) out) else (packed (answer_refusal BufferOverflow), out)

-- all numbers of a record, and how many these are
abbrev pub given_all : {A : Type 0} → List A → List A → ℕ × List A
given_all vs out = given (answer_count (length vs)) vs out

-- any list of numbers, and the low byte of how many these are
abbrev pub given_short : {A : Type 0} → List A → List A → ℕ × List A
given_short vs out = given (in_bytes (answer_count (length vs))) vs out

-- a record of a fixed layout, by what was decoded
unfoldable pub gives : Decoded → List ℤ → ℕ × List ℤ
gives (decoded vs) out = given_all vs out
gives (refused row) out = (packed (answer_row row), out)

-- a record that stands beside its answer, by the answer's row
abbrev pub by_row : {A : Type 0} → List ℕ → ℕ × List A → List A → ℕ × List A
by_row row whole out = when eqb (get_or row 0 0) 0 then whole else (packed (answer_row row), out)

unfoldable pub gives_channels : List ℕ × RcChannelsPacked → List ℕ → ℕ × List ℕ
gives_channels read out = by_row read.0 (given_all read.1.0 out) out

-- how many values of a series, and the source id; or the refusal
abbrev pub answer_series : Read → HostAnswer
answer_series (Ok s) = record { number = 0; taken = 0; in_state = 0; at = 0; len = s.count; first = s.id; second = 0 }
answer_series (Err r) = answer_refusal r

-- a series that was read, and the slice with its values at the front
abbrev pub gives_series : {A : Type 0} → Read × List A → ℕ × List A
gives_series (s, out) = (packed (answer_series s), out)
