-- Any run of a host's entries on one stream. Each step is what the entry's own `ensures` says (crates/host/src/state.rt).
-- Assumes nothing.
use Rattle.std.specs.Prelude.{ℕ, ◌≡◌, true, List, [], ◌∷◌, ◌++◌, length, take, drop}
use Rattle.reading.specs.Reading.{limit}
use Rattle.writing.specs.Writing.{write_of}
use Rattle.saved.specs.Form as forms
use Rattle.saved.specs.Form.{held_of}
use Rattle.host_state.specs.State.{size}
use Rattle.host_state.specs.Step.{can_number}
use Rattle.host_state.specs.Saving.{reset_state, state_image, restore_state}
use Rattle.host_answer.specs.Answer.{answers}
use Rattle.host_answer.specs.Reply.{Calls}
use Rattle.host_runs.specs.Answered.{number_in, taken_in, len_in, said_in, told_in}

-- `HostRun origin stream state unread said told`: of the stream so far, the bytes of a restored form and then all pieces, the first byte has the position
-- `origin`, and `unread` is still to be taken; `state` is the state's bytes now; `said` is what the calls said, in order, and `told` are the positions that
-- their slices were told.
--   reset     crsf_reset, of any bytes of the right number: a new stream
--   restore   crsf_restore of a form that is accepted, into any bytes of the right number
--   offer     the host has one more piece
--   next      crsf_next_raw_packet on what is unread, or on the first part of it, with a slice of one place or more. It is not refused with 12. (With a
--             slice without a place it says and leaves the same: `next_any` of proofs/Runs)
--   resume    crsf_save into any buffer, and crsf_restore of the bytes that it wrote into any bytes of the right number: the stream goes on there
pub data HostRun : ℕ → List ℕ → List ℕ → List ℕ → List (List ℕ) → List ℕ → Type 0 where
  reset : (any : List ℕ) {r : ℕ} {state : List ℕ} → length any ≡ size → (r, state) ≡ answers (reset_state any) → HostRun 0 [] state [] [] []
  restore : (any form : List ℕ) {r : ℕ} {state : List ℕ} → length any ≡ size → (r, state) ≡ answers (restore_state form any) → number_in r ≡ 0
      → HostRun (forms.position_in form) (held_of limit form) state [] [] []
  offer : {origin : ℕ} {stream state unread : List ℕ} {said : List (List ℕ)} {told : List ℕ} (piece : List ℕ)
      → HostRun origin stream state unread said told
      → HostRun origin (stream ++ piece) state (unread ++ piece) said told
  next : {origin : ℕ} {stream state : List ℕ} {said : List (List ℕ)} {told : List ℕ} (input later : List ℕ) (place : ℕ) (places : List ℕ) {after slice : List ℕ} {r : ℕ}
      → HostRun origin stream state (input ++ later) said told → can_number state input ≡ true → Calls state input (place ∷ places) after slice r
      → HostRun origin stream after (drop (taken_in r) input ++ later) (said ++ said_in r input after) (told ++ told_in r slice)
  resume : {origin : ℕ} {stream state unread : List ℕ} {said : List (List ℕ)} {told : List ℕ} (out any : List ℕ) {r s : ℕ} {written after : List ℕ}
      → HostRun origin stream state unread said told → (r, written) ≡ answers (write_of (state_image state) out) → number_in r ≡ 0
      → length any ≡ size → (s, after) ≡ answers (restore_state (take (len_in r) written) any)
      → HostRun origin stream after unread said told
