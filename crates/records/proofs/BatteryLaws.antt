-- Batteries (RULES 10): a capacity that 24 bits don't hold is refused, and every other record is written; whatever was written is read back; and
-- writing after reading gives the payload, for payloads of 8 bytes and those of 9 whose id is not 0.
-- Assumes nothing.
use Rattle.std.specs.Prelude.{Ok}
use Prim.Native.Nat.{ℕ, ◌≤◌, ◌<◌}
use mathlib.Core.List.{List, [], ◌∷◌, ◌++◌, append-nil}
use mathlib.Core.Logic.{⊎_elim}
use mathlib.Core.Path.{◌≡◌, sym, ap, ◌∙◌}
use native.Mathlib.Nat.{le_of_eq}
use native.Mathlib.Omega.{arith}
use borrow.Author.Tests.{le-leb, lt-leb, le-ltb, lt-ltb, leb-true, eq-eqb, ne_eqb, eqb-true}
use lib.Dec.{eqb, leb, lit≤, lit<}
use lib.IntN.{ℤ, pos}
use lib.ListN.{length, get_or, take}
use lib.Signed.{mag}
use Rattle.base.specs.Bytes.{Bytes}
use Rattle.base.specs.Parts.{part}
use Rattle.base.proofs.Parts.{length_part, bytes_part}
use Rattle.base.proofs.Tests.{by_test, below}
use Rattle.refusals.specs.declared.Refusal.TheVariants.{CapacityRange}
use Rattle.numbers.specs.BigEndian.{be_of}
use Rattle.numbers.proofs.BigEndian.{be_of_lt}
use Rattle.layout.specs.Layout.{signed, unsigned, size_of, HoldsAll, read_from, read_as, record_bytes}
use Rattle.writing.specs.Writing.{bytes, refused}
use Rattle.layout.proofs.Fields.{length_record_bytes, read_as_written, written_payload}
use Rattle.layout.specs.Decoded.{Decoded, decoded, too_short, decoded_by}
use Rattle.records.specs.Battery.{battery_layout, short_layout, battery_fields, battery_values, battery_decoded, battery_read, battery_bytes, too_large, battery_image}
use Rattle.records.specs.declared.battery.Battery.{Battery}
use Rattle.layout.proofs.Known.{natural, numbers_of, same_numbers}
use Rattle.layout.proofs.Laws.{written_back}

-- ---- what is written, and what is refused

module _ (x : Battery) where
  pub image_refused : too_large ≤ x.capacity_used → battery_image x ≡ refused CapacityRange
  unfolding battery_image
  image_refused large = simp (le-ltb _ too_large large)

  pub image_bytes : x.capacity_used < too_large → battery_image x ≡ bytes (battery_bytes x)
  unfolding battery_image
  image_bytes fits = simp (lt-ltb _ too_large fits)

  -- without an id, and with one
  pub image_short : x.capacity_used < too_large → x.id ≡ 0 → battery_image x ≡ bytes (record_bytes short_layout (battery_values x))
  image_short fits none = image_bytes fits ∙ simp (eq-eqb x.id 0 none)

  pub image_long : x.capacity_used < too_large → (x.id ≡ 0 → ⊥) → battery_image x ≡ bytes (record_bytes battery_layout (battery_values x))
  image_long fits some = image_bytes fits ∙ simp (ne_eqb x.id 0 some)

  -- where there are bytes to write, the capacity is one that 24 bits hold
  written_fits : (payload : List ℕ) → battery_image x ≡ bytes payload → (x.capacity_used < too_large) × (battery_bytes x ≡ payload)
  written_fits payload e =
      ⊎_elim
      (λ (fits : x.capacity_used < too_large). let these = image_bytes fits in (fits, cc))
      (λ (large : too_large ≤ x.capacity_used). let no = image_refused large in let z : ◌≡◌ {A = ℕ} 0 1 = cc in absurd (omega arith))
      (below x.capacity_used too_large)

  -- eight bytes, or nine with an id
  bytes_long : length (battery_bytes x) ≡ size_of (battery_fields x.id)
  unfolding battery_values
  bytes_long =
      by_test (eqb x.id 0)
      (λ none. rw none (length_record_bytes short_layout (battery_values x) (lit≤ tt)))
      (λ some. rw some (length_record_bytes battery_layout (battery_values x) (lit≤ tt)))

  few_fields : (8 ≤ size_of (battery_fields x.id)) × (size_of (battery_fields x.id) ≤ 9)
  few_fields = by_test (eqb x.id 0) (λ none. rw none (lit≤ tt, lit≤ tt)) (λ some. rw some (lit≤ tt, lit≤ tt))

  pub battery_long : (payload : List ℕ) → battery_image x ≡ bytes payload → length payload ≡ size_of (battery_fields x.id)
  battery_long payload e = rw (← (written_fits payload e).1) bytes_long

  pub battery_few : (payload : List ℕ) → battery_image x ≡ bytes payload → (8 ≤ length payload) × (length payload ≤ 9)
  battery_few payload e = rw (battery_long payload e) few_fields

-- ---- READING AFTER WRITING

-- a payload of eight bytes, and a longer one
short : (payload : List ℕ) → length payload ≡ size_of short_layout → battery_read payload ≡ read_as short_layout (λ vs. decoded (vs ++ (pos 0 ∷ []))) too_short payload
unfolding battery_read
short payload e = simp (lt-leb 9 (length payload) (omega arith))

long : (payload : List ℕ) → size_of battery_layout ≤ length payload → battery_read payload ≡ read_as battery_layout decoded too_short payload
unfolding battery_read
long payload h = simp (le-leb 9 (length payload) h)

bytes_read : (x : Battery) → HoldsAll battery_layout (battery_values x) → battery_read (battery_bytes x) ≡ battery_decoded (Ok x)
unfolding decoded_by battery_values
bytes_read x h =
    let vs : List ℤ = battery_values x in
    by_test (eqb x.id 0)
    (λ none.
    let p : List ℕ = record_bytes short_layout vs in
    let back : read_as short_layout (λ us. decoded (us ++ (pos 0 ∷ []))) too_short (p ++ []) ≡ decoded (take 4 vs ++ (pos 0 ∷ [])) =
    read_as_written short_layout (λ us. decoded (us ++ (pos 0 ∷ []))) too_short (take 4 vs) []
    (h.0, (h.1.0, (h.1.1.0, (h.1.1.1.0, tt)))) in
    rw (none, short p (length_record_bytes short_layout vs (lit≤ tt)))
    (rw append-nil at back ∙ sym (ap (λ (n : ℕ). decoded (take 4 vs ++ (pos n ∷ []))) (eqb-true x.id 0 none))))
    (λ some.
    let p : List ℕ = record_bytes battery_layout vs in
    rw (some, long p (le_of_eq (sym (length_record_bytes battery_layout vs (lit≤ tt)))))
    (rw append-nil at (read_as_written battery_layout decoded too_short vs [] h)))

-- the numbers of a record are those that its struct holds: of the capacity, any of 32 bits
abbrev pub IsBattery : Battery → Type 0
IsBattery x = HoldsAll (signed 2 ∷ signed 2 ∷ unsigned 4 ∷ unsigned 1 ∷ unsigned 1 ∷ []) (battery_values x)

-- whatever was written is read back
pub battery_read_written : (x : Battery) (payload : List ℕ) → IsBattery x → battery_image x ≡ bytes payload → battery_read payload ≡ battery_decoded (Ok x)
unfolding battery_values
battery_read_written x payload h e =
    let w = written_fits x payload e in
    let fits : x.capacity_used < 16777216 = omega (arith, w.0) in
    rw (← w.1) (bytes_read x (h.0, (h.1.0, ((h.1.1.0.0, fits), (h.1.1.1.0, (h.1.1.1.1.0, tt))))))

-- ---- WRITING AFTER READING

-- the capacity that is read has 24 bits, so what is read can be written
capacity_bound : (payload : List ℕ) → Bytes payload → 7 ≤ length payload → be_of (part payload 4 3) < too_large
capacity_bound payload b h =
    rw (length_part payload 4 3 (omega arith)) at (be_of_lt (part payload 4 3) (bytes_part payload 4 3 b))

third_fits : (payload : List ℕ) → Bytes payload → natural 2 (numbers_of (battery_read payload)) < too_large
unfolding battery_read
third_fits payload b =
    by_test (leb 9 (length payload))
    (λ t. simp t (capacity_bound payload b (omega (arith, leb-true 9 (length payload) t))))
    (λ t.
    by_test (leb 8 (length payload))
    (λ u. simp (t, u) (capacity_bound payload b (omega (arith, leb-true 8 (length payload) u))))
    (λ u. simp (t, u) (lit< tt)))

module _ (x : Battery) (payload : List ℕ) (b : Bytes payload) (r : battery_decoded (Ok x) ≡ battery_read payload) where
  pub capacity_read : x.capacity_used < too_large
  unfolding decoded_by battery_values
  capacity_read = rw (ap (λ (a : Decoded). natural 2 (numbers_of a)) r) (third_fits payload b)

  -- eight bytes ..
  pub battery_written_read_short : length payload ≡ size_of short_layout → battery_image x ≡ bytes payload
  unfolding decoded_by battery_values
  battery_written_read_short e =
      let us : List ℤ = read_from short_layout 0 payload in
      let same : decoded (battery_values x) ≡ decoded (us ++ (pos 0 ∷ [])) = simp (le-leb 8 (length payload) (omega arith)) at (r ∙ short payload e) in
      let none : x.id ≡ 0 = ap (λ (vs : List ℤ). mag (get_or vs 4 (pos 0))) (same_numbers same) in
      image_short x capacity_read none
      ∙ ap bytes
      (ap (record_bytes short_layout) (same_numbers same)
      ∙ written_payload short_layout payload b e)

  -- .. and nine, with an id that is not 0
  pub battery_written_read_long : length payload ≡ size_of battery_layout → 0 < x.id → battery_image x ≡ bytes payload
  unfolding decoded_by
  battery_written_read_long e some =
      image_long x capacity_read (λ none. omega (arith, none))
      ∙ ap bytes (written_back battery_layout (battery_values x) payload b e (r ∙ long payload (le_of_eq (sym e))))
