-- What the writer of a log writes (RULES 16.11): the start, or one entry. Bytes that are not one whole valid frame are refused with 10 in any buffer, so
-- before a buffer that is too short, 5.
-- Assumes nothing.
use Rattle.std.specs.Prelude.{Bool, ◌&&◌, List, [], ℕ, leb, length}
use Rattle.base.specs.Choice.{when◌then◌else◌}
use Rattle.reading.specs.Reading.{limit}
use Rattle.refusals.specs.declared.Refusal.TheVariants.{InvalidFrame}
use Rattle.writing.specs.Writing.{Image, bytes, refused}
use Rattle.kit_log.specs.Entry.{entry_bytes, log_bytes}
use Rattle.kit_log.specs.Reading.{fine}

-- a log without entries
abbrev pub start_image : Image
start_image = bytes (log_bytes [])

-- one whole valid frame, as a test: what the reader of a log looks at, of all bytes at once. It decides `Valid` (`frame_decided` of proofs/Frames)
unfoldable pub is_frame : List ℕ → Bool
is_frame c = leb 4 (length c) && leb (length c) limit && fine (length c) c

unfoldable pub entry_image : ℕ → List ℕ → Image
entry_image seconds c = when is_frame c then bytes (entry_bytes (record { seconds = seconds; frame = c })) else refused InvalidFrame
