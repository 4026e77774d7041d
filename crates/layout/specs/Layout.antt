-- A fixed layout is the list of its fields, and reading and writing go by the list (RULES 10).
-- Assumes nothing.
use Rattle.std.specs.Prelude.{ℕ, ◌+◌, ◌^◌, ◌<◌, ◌≡◌, List, [], ◌∷◌, ◌++◌, Bool, true, false, leb, ℤ, pos, length}
use Rattle.std.specs.Int.Signed.{mag}
use Rattle.base.specs.Choice.{when◌then◌else◌}
use Rattle.numbers.specs.BigEndian.{be_of, bytes_of}
use Rattle.numbers.specs.TwosComplement.{signed_of, twos_of, InRange}
use Rattle.base.specs.Parts.{part}

-- a field is a number of that many bytes, highest byte first, signed or not
pub record Field : Type 0 where
  pub sign : Bool
  pub width : ℕ

abbrev pub field_of : Bool → ℕ → Field
field_of s w = record { sign = s; width = w }

abbrev pub signed : ℕ → Field
signed = field_of true

abbrev pub unsigned : ℕ → Field
unsigned = field_of false

abbrev pub size_of : List Field → ℕ
size_of [] = 0
size_of (f ∷ fs) = f.width + size_of fs

-- the number that n stands for, in two's complement or as it is
abbrev pub read_as_signed : Bool → ℕ → ℕ → ℤ
read_as_signed true w n = signed_of w n
read_as_signed false w n = pos n

-- the number that a field's bytes stand for
abbrev pub value_of : Field → List ℕ → ℤ
value_of f bs = read_as_signed f.sign f.width (be_of bs)

-- a number's bytes in a field: the low ones that the field has room for
abbrev pub bytes_for : Field → ℤ → List ℕ
bytes_for f z = bytes_of f.width (twos_of f.width z)

-- the numbers that `width` bytes hold, signed or not. (`mag` of a natural number is the number.)
abbrev pub HeldBy : Bool → ℕ → ℤ → Type 0
HeldBy true w z = (0 < w) × InRange w z
HeldBy false w z = (z ≡ pos (mag z)) × (mag z < 256 ^ w)

abbrev pub Holds : Field → ℤ → Type 0
Holds f z = HeldBy f.sign f.width z

abbrev pub HoldsAll : List Field → List ℤ → Type 0
HoldsAll [] [] = Unit {0}
HoldsAll [] (v ∷ vs) = ⊥
HoldsAll (f ∷ fs) [] = ⊥
HoldsAll (f ∷ fs) (v ∷ vs) = Holds f v × HoldsAll fs vs

-- the fields' numbers, from `at` on
abbrev pub read_from : List Field → ℕ → List ℕ → List ℤ
read_from [] at bs = []
read_from (f ∷ fs) at bs = value_of f (part bs at f.width) ∷ read_from fs (at + f.width) bs

-- the fields' bytes, one field after the other
abbrev pub record_bytes : List Field → List ℤ → List ℕ
record_bytes [] vs = []
record_bytes (f ∷ fs) [] = []
record_bytes (f ∷ fs) (v ∷ vs) = bytes_for f v ++ record_bytes fs vs

-- a payload that holds the fields reads as what `make` makes of their numbers, and bytes behind them are ignored; a shorter one is refused
abbrev pub read_as : {R : Type 0} → List Field → (List ℤ → R) → R → List ℕ → R
read_as fs make refusal payload = when leb (size_of fs) (length payload) then make (read_from fs 0 payload) else refusal
