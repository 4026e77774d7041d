-- One call of the stream over the state's lent bytes, in eight bytes (RULES 14).
-- Assumes nothing.
use Rattle.std.specs.Prelude.{ℕ, ◌+◌, ◌≡◌, Bool, true, false, List, [], ◌∷◌, ltb}
use Rattle.base.specs.Choice.{when◌then◌else◌}
use Rattle.base.specs.Parts.{placed}
use Rattle.refusals.specs.Row.{row_of, number_of}
use Rattle.stream.specs.declared.step.Place.{Place}
use Rattle.stream.specs.declared.step.Place.TheVariants.{InPiece, InHeld}
use Rattle.stream.specs.declared.step.Reply.{Reply}
use Rattle.stream.specs.declared.step.Reply.TheVariants.{More, Frame, Refused}
use Rattle.stream.specs.declared.step.Replied.{Replied}
use Rattle.numbered.specs.declared.Answered.{Answered}
use Rattle.host_state.specs.State.{places_at}
use Rattle.host_state.specs.Step.{StateSteps}
use Rattle.host_answer.specs.declared.answer.HostAnswer.{HostAnswer}
use Rattle.host_answer.specs.declared.reply.Told.{Told}
use Rattle.host_answer.specs.Answer.{packed, in_bytes, answer_number, answer_place, answer_carried}

-- the number of an answer that asks for more
abbrev pub more_number : ℕ
more_number = 255

-- a frame of the held bytes is known by its place in the state, whose places stand behind start and end
abbrev pub answer_frame : ℕ → Place → HostAnswer
answer_frame n (InPiece l) = answer_place n 0 0 l
answer_frame n (InHeld p l) = answer_place n 1 (places_at + p) l

unfoldable pub answer_reply : ℕ → Reply → HostAnswer
answer_reply n More = answer_number more_number n 0 0
answer_reply n (Frame p) = answer_frame n p
answer_reply n (Refused r) = answer_carried n (row_of r)

abbrev pub answer_call : Answered → HostAnswer
answer_call r = answer_reply r.taken r.reply

-- how many bytes an answer to a valid state drops, by its reply
unfoldable pub dropped_in : Reply → ℕ
dropped_in More = 0
dropped_in (Frame (InPiece n)) = n
dropped_in (Frame (InHeld p n)) = n
dropped_in (Refused r) = 1

-- the eight bytes of a call over the places, and what it dropped
abbrev pub told_by : Replied → Told
told_by r = record { answer = packed (in_bytes (answer_reply r.taken r.reply)); dropped = dropped_in r.reply }

-- an answer says where it began: a frame does, and so do refusals 1, 2 and 3
unfoldable pub says_where : Reply → Bool
says_where More = false
says_where (Frame p) = true
says_where (Refused r) = ltb (number_of r) 4

-- .. to the first place of a slice of numbers, if there is one
unfoldable pub told : Reply → ℕ → List ℕ → List ℕ
told reply began out = when says_where reply then placed out 0 (began ∷ []) else out

-- the call is the stream's over the state, the number is what it says, and the slice is told where its answer began
pub record Calls (before input out after outAfter : List ℕ) (r : ℕ) : Type 0 where
  pub answered : Answered
  pub steps : StateSteps before input after answered
  pub packs : r ≡ packed (answer_call answered)
  pub tells : outAfter ≡ told answered.reply answered.position out
