-- Laws of fixed records, over the layout.
-- Assumes nothing.
use mathlib.Core.Path.{◌≡◌, refl, sym, ap, ◌∙◌}
use mathlib.Core.List.{List, [], ◌∷◌, ◌++◌, append_assoc}
use Prim.Native.Nat.{ℕ, suc, ◌+◌, ◌^◌, ◌≤◌, ◌<◌}
use native.Mathlib.Nat.{mod-eq_of_lt, le_of_eq}
use native.Mathlib.Omega.{arith}
use mathlib.Core.Bool.{Bool, true, false}
use lib.IntN.{ℤ, pos}
use lib.Signed.{mag}
use lib.ListN.{length, take, drop, length-append}
use borrow.Author.Tests.{le-leb}
use lib.Seq.{take_all, take_at, drop_at, take-add, drop-drop}
use Rattle.base.specs.Bytes.{Bytes}
use Rattle.numbers.specs.BigEndian.{be_of, bytes_of}
use Rattle.numbers.specs.TwosComplement.{twos_of}
use Rattle.base.specs.Parts.{part}
use Rattle.numbers.proofs.BigEndian.{length_bytes_of, be_of_bytes_of, bytes_of_be_of, be_of_lt}
use Rattle.numbers.proofs.TwosComplement.{signed_of_twos_of, twos_of_signed_of, twos_of_lt, twos_of_pos}
use Rattle.base.proofs.Parts.{length_part, bytes_part}
use Rattle.layout.specs.Layout.{Field, size_of, read_as_signed, value_of, bytes_for, HeldBy, Holds, HoldsAll, read_from, record_bytes, read_as}

-- ---- one field

pub length_bytes_for : (f : Field) (v : ℤ) → length (bytes_for f v) ≡ f.width
length_bytes_for f v = length_bytes_of f.width (twos_of f.width v)

number_bytes : (f : Field) (v : ℤ) → be_of (bytes_for f v) ≡ twos_of f.width v
number_bytes f v = be_of_bytes_of f.width (twos_of f.width v) ∙ mod-eq_of_lt (twos_of_lt f.width v)

read_twos : (s : Bool) (w : ℕ) (v : ℤ) → HeldBy s w v → read_as_signed s w (twos_of w v) ≡ v
read_twos true w v h = signed_of_twos_of w v h.0 h.1
read_twos false w v h = ap pos (ap (twos_of w) h.0 ∙ twos_of_pos w (mag v) h.1) ∙ sym h.0

twos_read : (s : Bool) (w n : ℕ) → n < 256 ^ w → twos_of w (read_as_signed s w n) ≡ n
twos_read true w n h = twos_of_signed_of w n h
twos_read false w n h = twos_of_pos w n h

pub value_bytes : (f : Field) (v : ℤ) → Holds f v → value_of f (bytes_for f v) ≡ v
value_bytes f v h = ap (read_as_signed f.sign f.width) (number_bytes f v) ∙ read_twos f.sign f.width v h

pub bytes_value : (f : Field) (bs : List ℕ) → Bytes bs → length bs ≡ f.width → bytes_for f (value_of f bs) ≡ bs
bytes_value f bs b e =
    let fits : be_of bs < 256 ^ f.width = rw (← e) (be_of_lt bs b) in
    ap (bytes_of f.width) (twos_read f.sign f.width (be_of bs) fits) ∙ rw (← e) (bytes_of_be_of bs b)

-- ---- a record

pub length_record_bytes : (fs : List Field) (vs : List ℤ) → length fs ≤ length vs → length (record_bytes fs vs) ≡ size_of fs
length_record_bytes [] vs h = refl
length_record_bytes (f ∷ fs) [] h = absurd (omega arith)
length_record_bytes (f ∷ fs) (v ∷ vs) h =
    rw (length-append (bytes_for f v) (record_bytes fs vs), length_bytes_for f v, length_record_bytes fs vs (omega arith))

-- READING AFTER WRITING gives the numbers back, whatever stands before and behind
pub read_written :
    (fs : List Field) (vs : List ℤ) (before after : List ℕ) (at : ℕ)
    → length before ≡ at → HoldsAll fs vs → read_from fs at (before ++ (record_bytes fs vs ++ after)) ≡ vs
read_written [] [] before after at e h = refl
read_written [] (v ∷ vs) before after at e h = absurd h
read_written (f ∷ fs) [] before after at e h = absurd h
read_written (f ∷ fs) (v ∷ vs) before after at e h =
    let b : List ℕ = bytes_for f v in
    let rest : List ℕ = record_bytes fs vs ++ after in
    let apart : before ++ ((b ++ record_bytes fs vs) ++ after) ≡ before ++ (b ++ rest) =
    ap (λ (l : List ℕ). before ++ l) (append_assoc b (record_bytes fs vs) after) in
    let here : part (before ++ (b ++ rest)) at f.width ≡ b =
    ap (λ (l : List ℕ). take f.width l) (drop_at before (b ++ rest) at e) ∙ take_at b rest f.width (length_bytes_for f v) in
    let long : length (before ++ b) ≡ at + f.width =
    length-append before b ∙ omega (arith, e, length_bytes_for f v) in
    let later : read_from fs (at + f.width) (before ++ (b ++ rest)) ≡ vs =
    ap (read_from fs (at + f.width)) (sym (append_assoc before b rest))
    ∙ read_written fs vs (before ++ b) after (at + f.width) long h.1 in
    rw (apart, here, later) (ap (λ (z : ℤ). z ∷ vs) (value_bytes f v h.0))

-- WRITING AFTER READING gives the bytes back
pub written_read :
    (fs : List Field) (at : ℕ) (bs : List ℕ) → Bytes bs → at + size_of fs ≤ length bs
    → record_bytes fs (read_from fs at bs) ≡ part bs at (size_of fs)
written_read [] at bs b h = refl
written_read (f ∷ fs) at bs b h =
    let w : ℕ = f.width in
    let here : bytes_for f (value_of f (part bs at w)) ≡ part bs at w =
    bytes_value f (part bs at w) (bytes_part bs at w b) (length_part bs at w (omega arith)) in
    let later : record_bytes fs (read_from fs (at + w) bs) ≡ take (size_of fs) (drop w (drop at bs)) =
    written_read fs (at + w) bs b (omega arith) ∙ ap (λ (l : List ℕ). take (size_of fs) l) (sym (drop-drop w at bs)) in
    rw (here, later) (sym (take-add w (size_of fs) (drop at bs)))

holds_length : (fs : List Field) (vs : List ℤ) → HoldsAll fs vs → length vs ≡ length fs
holds_length [] [] h = refl
holds_length [] (v ∷ vs) h = absurd h
holds_length (f ∷ fs) [] h = absurd h
holds_length (f ∷ fs) (v ∷ vs) h = ap suc (holds_length fs vs h.1)

-- the same of a whole payload, read as a record
pub read_as_written :
    {R : Type 0} (fs : List Field) (make : List ℤ → R) (refusal : R) (vs : List ℤ) (after : List ℕ)
    → HoldsAll fs vs → read_as fs make refusal (record_bytes fs vs ++ after) ≡ make vs
read_as_written fs make refusal vs after h =
    let fits : size_of fs ≤ length (record_bytes fs vs ++ after) =
    rw (length-append (record_bytes fs vs) after, length_record_bytes fs vs (le_of_eq (sym (holds_length fs vs h)))) (omega arith) in
    simp (le-leb _ _ fits) (ap make (read_written fs vs [] after 0 refl h))

pub written_payload :
    (fs : List Field) (bs : List ℕ) → Bytes bs → length bs ≡ size_of fs → record_bytes fs (read_from fs 0 bs) ≡ bs
written_payload fs bs b e = written_read fs 0 bs b (omega arith) ∙ take_all (size_of fs) bs (omega arith)
