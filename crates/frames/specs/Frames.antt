-- Whole frames (RULES 4): address, length, type, payload, check byte. Their writers refuse a bad address first, then what the record's own writer
-- refuses, then a buffer that is too short (RULES 1).
-- Assumes nothing.
use Rattle.std.specs.Prelude.{ℕ, ◌+◌, ◌-◌, List, ◌∷◌, Ok, Err}
use Rattle.base.specs.Choice.{when◌then◌else◌}
use Rattle.base.specs.Parts.{part, pasted}
use Rattle.packets.specs.Listed.{listed}
use Rattle.reading.specs.Frame.{frame}
use Rattle.reading.specs.Reading.{limit}
use Rattle.refusals.specs.declared.Refusal.TheVariants.{BadAddress}
use Rattle.writing.specs.Writing.{Image, bytes, refused}
use Rattle.writing.specs.Writing.{Written}

-- a payload, or its refusal, as a frame
unfoldable pub framed_body : ℕ → ℕ → Image → Image
framed_body dest kind (bytes payload) = bytes (frame dest (kind ∷ payload))
framed_body dest kind (refused r) = refused r

-- the address is tested first
unfoldable pub framed : ℕ → ℕ → Image → Image
framed dest kind image = when listed dest then framed_body dest kind image else refused BadAddress

-- ---- how the writers get there

-- the bytes of a frame beside its payload, and the most bytes of a payload
abbrev pub overhead : ℕ
overhead = 4

abbrev pub most_payload : ℕ
most_payload = limit - overhead

-- the bytes of the frame where a record's own writer answers so
abbrev pub whole_in : Written → ℕ
whole_in (Ok n) = n + overhead
whole_in (Err r) = 0

-- .. and that frame, about what stands in the payload's places; or the refusal, and every byte kept
unfoldable pub sealed_of : ℕ → ℕ → Written → List ℕ → Written × List ℕ
sealed_of dest kind (Ok n) buffer = (Ok (n + overhead), pasted buffer 0 (frame dest (kind ∷ part buffer 3 n)))
sealed_of dest kind (Err r) buffer = (Err r, buffer)
