-- What the readers for a host give: numbers copied to the front of a slice, then each record by what its reader answers.
-- Assumes nothing.
use Rattle.std.specs.Prelude.{Ok, Err, Result}
use mathlib.Core.Path.{◌≡◌, refl, sym, ap, ◌∙◌}
use mathlib.Core.List.{List, [], ◌∷◌, ◌++◌}
use Prim.Native.Nat.{ℕ, ◌≤◌, ◌<◌}
use native.Mathlib.Nat.{mod-eq_of_lt}
use native.Mathlib.Omega.{arith}
use borrow.Author.Tests.{le-leb, lt-leb}
use lib.Dec.{lit<}
use lib.IntN.{ℤ}
use lib.ListN.{length, take, drop}
use Rattle.refusals.specs.Row.{row_of}
use Rattle.refusals.specs.declared.Refusal.{Refusal}
use Rattle.refusals.specs.declared.Refusal.TheVariants.{BufferOverflow}
use Rattle.layout.specs.Decoded.{Decoded, decoded, refused, decoded_by, record_row, read_row, read_record}
use Rattle.channels.specs.Channels.{no_channels, channels_read}
use Rattle.channels.specs.declared.RcChannelsPacked.{RcChannelsPacked}
use Rattle.series.specs.Series.{Kind, Counted, Read, values_said, series_read, counted_read}
use Rattle.series.proofs.ReadLaws.{in_values}
use Rattle.series.proofs.SeriesLaws.{counted_long, lent_as_counted}
use Rattle.host_answer.specs.declared.answer.HostAnswer.{HostAnswer}
use Rattle.host_answer.specs.Answer.{packed, in_bytes, answer_refusal}
use Rattle.host_answer.specs.Seen.{unpacked}
use Rattle.host_answer.proofs.Rows.{not_success, row_refusal}
use Rattle.host_answer.proofs.Packing.{unpack}
use Rattle.host_records.specs.Read.{given, given_all, given_short, gives, by_row, gives_channels, answer_series, gives_series}

module _ {A : Type 0} (s d : List A) (answer : HostAnswer) (n : ℕ) (size : length s ≡ n) where
  pub given_all_lem : n ≤ length d → (packed answer, s ++ drop n d) ≡ given answer s d
  unfolding given
  given_all_lem room = simp (size, le-leb _ _ room)

  pub given_none : length d < n → (packed (answer_refusal BufferOverflow), d) ≡ given answer s d
  unfolding given
  given_none short = simp (size, lt-leb _ _ short)

-- all of the numbers that a function lists: few enough that a byte has their count
pub all_given : {A : Type 0} (out : List A) {ws vs : List A} {gave : ℕ × List A} → gave ≡ given_short vs out → vs ≡ ws → length ws < 256 → gave ≡ given_all ws out
all_given out {ws} gave same few = gave ∙ rw (same, mod-eq_of_lt few)

-- ---- Records that stand beside their answer: what is given of a record, or what the answer refuses

module _ {A R : Type 0} (whole_of : R → ℕ × List A) (none : R) (out : List A) {a : Result R Refusal} {z : List ℕ × R}
    (read : (read_row a, read_record none a) ≡ z) where
  by_answer : {b : Result R Refusal} → a ≡ b → by_row (read_row b) (whole_of (read_record none b)) out ≡ by_row z.0 (whole_of z.1) out
  by_answer e =
      ap (λ (b : Result R Refusal). by_row (read_row b) (whole_of (read_record none b)) out) (sym e)
      ∙ ap (λ (y : List ℕ × R). by_row y.0 (whole_of y.1) out) read

  beside_given : {x : R} → a ≡ Ok x → whole_of x ≡ by_row z.0 (whole_of z.1) out
  unfolding read_row
  beside_given = by_answer

  beside_refused : (r : Refusal) → a ≡ Err r → (packed (answer_refusal r), out) ≡ by_row z.0 (whole_of z.1) out
  unfolding read_row
  beside_refused r e = simp (not_success r, row_refusal r) at (by_answer e)

module _ (payload out : List ℕ) {a : Result RcChannelsPacked Refusal} (read : (read_row a, read_record no_channels a) ≡ channels_read payload) where
  pub channels_given : {x : RcChannelsPacked} → a ≡ Ok x → given_all x.0 out ≡ gives_channels (channels_read payload) out
  unfolding gives_channels
  channels_given = beside_given (λ (y : RcChannelsPacked). given_all y.0 out) no_channels out read

  pub channels_refused : (r : Refusal) → a ≡ Err r → (packed (answer_refusal r), out) ≡ gives_channels (channels_read payload) out
  unfolding gives_channels
  channels_refused = beside_refused (λ (y : RcChannelsPacked). given_all y.0 out) no_channels out read

-- ---- Series

-- as many values as a series may have, and so the count of those that it has, have a byte
module _ {A : Type 0} (k : Kind A) (few : k.most < 256) (payload : List ℕ) (out : List A) where
  fits : (s : Read) → (series_read k payload out).0 ≡ s → in_bytes (answer_series s) ≡ answer_series s
  fits (Ok s) e =
      let small : s.count < 256 = omega (arith, in_values k.width k.most payload (length out) e) in
      rw (mod-eq_of_lt small)
  fits (Err r) e = refl

  pub series_given : {s : Read} {after : List A} {r : ℕ} → (s, after) ≡ series_read k payload out → r ≡ packed (in_bytes (answer_series s))
      → (r, after) ≡ gives_series (series_read k payload out)
  series_given {s} {after} read answers =
      ap (λ (n : ℕ). (n, after)) (answers ∙ ap packed (fits s (sym (ap (λ (x : Read × List A). x.0) read)))) ∙ ap gives_series read

-- the eight bytes (RULES 14): of a series that is read, the fifth says how many values and the sixth is the source id
pub series_bytes_lem :
    {A : Type 0} (k : Kind A) → k.most < 256 → (payload : List ℕ) (out : List A) {id n : ℕ} → id < 256
    → (series_read k payload out).0 ≡ values_said id n → unpacked 8 (gives_series (series_read k payload out)).0 ≡ 0 ∷ 0 ∷ 0 ∷ 0 ∷ n ∷ id ∷ 0 ∷ 0 ∷ []
series_bytes_lem k few payload out {id} {n} byte e =
    ap (λ (s : Read). unpacked 8 (packed (answer_series s))) e
    ∙ unpack (answer_series (values_said id n))
    (record {
      number = lit< tt;
      taken = lit< tt;
      in_state = lit< tt;
      at = lit< tt;
      len = omega (arith, in_values k.width k.most payload (length out) e);
      first = byte;
      second = lit< tt;
    })

-- what a record has goes to a slice with room for it, with the count and the id beside it
pub series_as_record :
    {A : Type 0} (k : Kind A) (payload : List ℕ) (out : List A) (h : Counted A) → counted_read k payload ≡ (record_row, h) → h.count ≤ length out
    → gives_series (series_read k payload out) ≡ given (answer_series (values_said h.id h.count)) (take h.count h.places) out
series_as_record k payload out h e room =
    ap gives_series (lent_as_counted k payload h e out room)
    ∙ given_all_lem (take h.count h.places) out (answer_series (values_said h.id h.count)) h.count (counted_long k payload h e) room

-- ---- Records of fixed layouts, by what their reader decodes

module _ {M : Type 0} (decodedBy : M → Decoded) (out : List ℤ) {m : M} {read : Decoded} (reads : decodedBy m ≡ read) where
  pub fixed_given : {x : M} {ws : List ℤ} {gave : ℕ × List ℤ} → m ≡ x → decodedBy x ≡ decoded ws → gave ≡ given_all ws out → gave ≡ gives read out
  unfolding gives
  fixed_given known is gave = gave ∙ rw (← reads, known, is)

  pub fixed_refused : {x : M} {n : ℕ} (r : Refusal) → m ≡ x → decodedBy x ≡ refused (row_of r) → n ≡ packed (answer_refusal r) → (n, out) ≡ gives read out
  unfolding gives
  fixed_refused r known is refuses = rw (refuses, ← reads, known, is, row_refusal r)

-- .. and of the Result that each such reader answers
module _ {R : Type 0} (values : R → List ℤ) (out : List ℤ) {read : Decoded} where
  pub answer_given : (x : R) {gave : ℕ × List ℤ} → decoded_by values (Ok x) ≡ read → gave ≡ given_all (values x) out → gave ≡ gives read out
  unfolding decoded_by
  answer_given x reads gave = fixed_given (decoded_by values) out {m = Ok x} reads refl refl gave

  pub answer_refused : (r : Refusal) {n : ℕ} → decoded_by values (Err r) ≡ read → n ≡ packed (answer_refusal r) → (n, out) ≡ gives read out
  unfolding decoded_by
  answer_refused r reads refuses = fixed_refused (decoded_by values) out {m = Err r} reads r refl refl refuses
