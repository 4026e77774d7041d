-- The same, said of a whole string and not byte by byte: `Reads s es st k` is that of the log s the entries es can be read, that the reader then
-- stands at st, and that it has taken k bytes. `agrees` and `only` of proofs/Agrees: this holds of every byte string for its reading and for nothing else.
-- Assumes nothing.
use Rattle.std.specs.Prelude.{◌≡◌, ◌⊎◌, ℕ, ◌+◌, ◌-◌, ◌≤◌, ◌<◌, List, [], ◌∷◌, ◌++◌, length}
use Rattle.groups.specs.Groups.{groups}
use Rattle.groups.specs.Reading.{unfinished, malformed, read}
use Rattle.refusals.specs.declared.Refusal.TheVariants.{InvalidLog, InvalidFrame}
use Rattle.reading.specs.Reading.{limit}
use Rattle.reading.specs.Frame.{Valid}
use Rattle.kit_log.specs.Entry.{Entry, greatest, Sound, entry_bytes}
use Rattle.kit_log.specs.Reading.{version, seconds, size, State, number, frame, refused}

-- some valid frame of n bytes begins with h
pub record Begins (n : ℕ) (h : List ℕ) : Type 0 where
  pub rest : List ℕ
  pub valid : Valid limit (h ++ rest)
  pub long : length (h ++ rest) ≡ n

-- what stands behind the number 1, or behind an entry
pub data Behind : List ℕ → List Entry → State → ℕ → Type 0 where
  -- an entry, and what stands behind it
  whole : {s : List ℕ} {es : List Entry} {st : State} {k : ℕ} (e : Entry) → Sound e → Behind s es st k → Behind (entry_bytes e ++ s) (e ∷ es) st (length (entry_bytes e) + k)
  -- the string ends, before the seconds or inside them; they are malformed: InvalidLog
  in_seconds : (s : List ℕ) (v w : ℕ) → read greatest s ≡ unfinished v w → Behind s [] (number seconds v w) (length s)
  bad_seconds : (s rest : List ℕ) → read greatest s ≡ malformed rest → Behind s [] (refused InvalidLog) (length s - length rest)
  -- the string ends before the length or inside it; it is malformed: 9; it is not 4 to 64: 10
  in_size : (t : ℕ) (s : List ℕ) (v w : ℕ) → t ≤ greatest → read greatest s ≡ unfinished v w → Behind (groups t ++ s) [] (number (size t) v w) (length (groups t) + length s)
  bad_size : (t : ℕ) (s rest : List ℕ) → t ≤ greatest → read greatest s ≡ malformed rest
      → Behind (groups t ++ s) [] (refused InvalidLog) (length (groups t) + (length s - length rest))
  not_size : (t n : ℕ) (rest : List ℕ) → t ≤ greatest → n ≤ greatest → (n < 4) ⊎ (limit < n)
      → Behind (groups t ++ (groups n ++ rest)) [] (refused InvalidFrame) (length (groups t) + length (groups n))
  -- the string ends before the frame or inside it; some byte of it is one that no valid frame of its length has there: 10
  in_frame : (t n : ℕ) (h : List ℕ) → t ≤ greatest → 4 ≤ n → n ≤ limit → Begins n h → length h < n
      → Behind (groups t ++ (groups n ++ h)) [] (frame t n h) (length (groups t) + (length (groups n) + length h))
  bad_frame : (t n : ℕ) (h : List ℕ) (b : ℕ) (rest : List ℕ) → t ≤ greatest → 4 ≤ n → n ≤ limit → Begins n h → length h < n → (Begins n (h ++ b ∷ []) → ⊥)
      → Behind (groups t ++ (groups n ++ (h ++ b ∷ rest))) [] (refused InvalidFrame) (length (groups t) + (length (groups n) + (length h + 1)))

-- a log starts with the number 1
pub data Reads : List ℕ → List Entry → State → ℕ → Type 0 where
  one : {s : List ℕ} {es : List Entry} {st : State} {k : ℕ} → Behind s es st k → Reads (groups 1 ++ s) es st (length (groups 1) + k)
  in_version : (s : List ℕ) (v w : ℕ) → read greatest s ≡ unfinished v w → Reads s [] (number version v w) (length s)
  bad_version : (s rest : List ℕ) → read greatest s ≡ malformed rest → Reads s [] (refused InvalidLog) (length s - length rest)
  not_one : (n : ℕ) (rest : List ℕ) → n ≤ greatest → (n ≡ 1 → ⊥) → Reads (groups n ++ rest) [] (refused InvalidLog) (length (groups n))
