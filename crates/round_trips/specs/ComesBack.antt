-- Fields, frame, stream, raw view, and the fields again (RULES 4, 8, 10): what a writer of frames writes is read as one frame, and the payload that the raw
-- view shows of it is read as the record.
-- Assumes nothing.
use Rattle.std.specs.Prelude.{ℕ, ◌≡◌, List, [], ◌∷◌}
use Rattle.reading.specs.Answer.{Frame}
use Rattle.reading.specs.Reading.{limit, reading}
use Rattle.writing.specs.Writing.{Image, bytes}
use Rattle.view.specs.View.{payload_of}

-- `ComesBack image read record`: image is what the frame's writer has to write, read the reader of a payload, record what it should answer
pub record ComesBack {A : Type 0} (image : Image) (read : List ℕ → A) (record_is : A) : Type 0 where
  pub frame : List ℕ
  pub written : image ≡ bytes frame
  pub read_as : reading limit frame ≡ record { answers = Frame frame ∷ []; tail = [] }
  pub fields : read (payload_of frame) ≡ record_is
