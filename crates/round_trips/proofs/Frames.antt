-- A payload through its frame: what the raw view shows of a frame is what was framed.
-- Assumes nothing.
use mathlib.Core.Path.{◌≡◌, sym, ap, ◌∙◌}
use mathlib.Core.Bool.{true}
use mathlib.Core.List.{List, [], ◌∷◌, append-nil}
use Prim.Native.Nat.{ℕ, ◌+◌, ◌-◌, ◌≤◌}
use native.Mathlib.Omega.{arith}
use borrow.Author.Tests.{le-ltb}
use lib.ListN.{length, length-append}
use lib.Seq.{take_at}
use Rattle.packets.specs.Listed.{listed}
use Rattle.crc.specs.Remainder.{remainder}
use Rattle.reading.specs.Answer.{Frame}
use Rattle.reading.specs.Reading.{limit, reading}
use Rattle.reading.specs.Frame.{frame}
use Rattle.writing.specs.Writing.{Image, bytes}
use Rattle.view.specs.View.{payload_of}
use Rattle.frames.specs.Frames.{framed_body, framed, most_payload}
use Rattle.reading.proofs.Frame.{only_frames}
use Rattle.frames.proofs.Laws.{written_valid}
use Rattle.round_trips.specs.ComesBack.{ComesBack}

pub payload_framed : (dest kind : ℕ) (payload : List ℕ) → payload_of (frame dest (kind ∷ payload)) ≡ payload
unfolding payload_of frame
payload_framed dest kind payload =
    let f : List ℕ = frame dest (kind ∷ payload) in
    let size : length f ≡ length payload + 4 = omega (arith, length-append payload (remainder (kind ∷ payload) ∷ [])) in
    let less : length payload ≡ length f - 4 = omega arith in
    rw (le-ltb (length f) 4 (omega arith)) (take_at payload (remainder (kind ∷ payload) ∷ []) (length f - 4) less)

-- a frame by itself is read as that frame
pub one_frame : (dest kind : ℕ) (payload : List ℕ) → listed dest ≡ true → length payload ≤ most_payload
    → reading limit (frame dest (kind ∷ payload)) ≡ record { answers = Frame (frame dest (kind ∷ payload)) ∷ []; tail = [] }
one_frame dest kind payload address few =
    let f : List ℕ = frame dest (kind ∷ payload) in
    ap (reading limit) (sym (append-nil f)) ∙ only_frames limit (f ∷ []) (written_valid dest kind payload address few, tt)

module _ {A : Type 0} (dest kind : ℕ) (address : listed dest ≡ true) (image : Image) (payload : List ℕ) (is : image ≡ bytes payload)
    (few : length payload ≤ most_payload) (read : List ℕ → A) (record_is : A) (back : read payload ≡ record_is) where
  pub comes_back : ComesBack (framed dest kind image) read record_is
  unfolding framed framed_body
  comes_back = record {
    frame = frame dest (kind ∷ payload);
    written = rw (address, is);
    read_as = one_frame dest kind payload address few;
    fields = ap read (payload_framed dest kind payload) ∙ back;
  }
