-- Piece after piece, the reader stands where the reading of everything that was read ends, so the last line is the log's.
-- Assumes nothing.
use mathlib.Core.Path.{◌≡◌, sym, ap, ◌∙◌}
use mathlib.Core.List.{List, ◌++◌}
use Prim.Native.Nat.{ℕ}
use Rattle.kit_log.specs.Reading as log
use Rattle.kit_log.specs.Reading.{start, Reading, read_from, reading}
use Rattle.kit_log.proofs.Reading.{goes_on}
use Rattle.log_reader.specs.State.{state_of}
use Rattle.log_reader.specs.declared.Reader.{Reader}
use Rattle.log_io.specs.State.{Leaves}

pub state_on : {before : List ℕ} {reader : Reader} {piece places : List ℕ} {r : Reader} (stream : List ℕ) → Leaves before reader piece places r
    → state_of before reader ≡ (reading stream).state → state_of places r ≡ (reading (stream ++ piece)).state
state_on {piece = piece} stream left before-is =
    left.state_is
    ∙ ap (λ (st : log.State). (read_from st piece).state) before-is
    ∙ ap (λ (x : Reading). x.state) (sym (goes_on start stream piece))
