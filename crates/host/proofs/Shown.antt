-- A raw channel in microseconds and the raw view, as a host is answered: what the code's parts say, and what the answers mean.
-- Assumes nothing.
use Rattle.std.specs.Prelude.{Ok, Err}
use mathlib.Core.Path.{◌≡◌, refl, sym, ap, ◌∙◌}
use mathlib.Core.Bool.{not}
use mathlib.Core.List.{List, [], ◌∷◌, ◌++◌}
use mathlib.Core.Logic.{inl, inr}
use Prim.Native.Nat.{ℕ, ◌-◌, ◌≤◌, ◌<◌, ◌/◌, ◌^◌}
use native.Mathlib.Omega.{arith}
use borrow.Author.Tests.{lt-ltb, le-ltb}
use lib.Dec.{T, lit≤, lit<}
use lib.Ieee.{Float, nan, inf, fin, binary32, is_nan, to_bits}
use lib.ListN.{length, get_or, drop, set}
use Rattle.base.specs.Bytes.{Bytes}
use Rattle.refusals.specs.Row.{row_of}
use Rattle.refusals.specs.declared.Refusal.{Refusal}
use Rattle.refusals.specs.declared.Refusal.TheVariants.{InvalidPayloadLength, ChannelRange}
use Rattle.micros.specs.Micros.{exact_row, microseconds_row, EightTimes, eighths, greatest, Answers}
use Rattle.micros.specs.Micros.{Microseconds}
use Rattle.micros.proofs.Unique.{one_row}
use Rattle.view.specs.View.{raw_row, raw_of, payload_of}
use Rattle.view.specs.declared.RawView.{RawView}
use Rattle.view.proofs.Raw.{shown_whole}
use Rattle.host_answer.specs.declared.answer.HostAnswer.{HostAnswer}
use Rattle.host_answer.specs.Answer.{lowest_first, packed, answer_count, answer_refusal}
use Rattle.host_answer.specs.Seen.{unpacked}
use Rattle.host_answer.proofs.Rows.{not_success, row_refusal}
use Rattle.host_answer.proofs.Packing.{unpack}
use Rattle.host_answer.proofs.Numbers.{refusal_bytes, row_bytes}
use Rattle.host_records.specs.Read.{given_all, by_row}
use Rattle.host_records.proofs.Given.{given_all_lem}
use Rattle.host.specs.Views.{GivesMicroseconds, raw_bytes, answer_raw}

-- ---- Microseconds

pub first_set : (bits : ℕ) (out : List ℕ) → 1 ≤ length out → set out 0 bits ≡ bits ∷ drop 1 out
first_set bits [] h = absurd (omega arith)
first_set bits (place ∷ more) h = refl

-- a float whose bits have a number is not a NaN
no_nan_bits : (f : Float) → to_bits binary32 f / 2 ^ 23 ≤ 254 → T (not (is_nan f))
unfolding is_nan to_bits
no_nan_bits nan h = absurd (omega arith)
no_nan_bits (inf s) h = tt
no_nan_bits (fin s m e) h = tt

no_nan : (x : ℕ) (f : Float) → Answers x (microseconds_row (Ok f)) → T (not (is_nan f))
unfolding microseconds_row
no_nan x f (inl p) =
    let same : to_bits binary32 f ≡ p.bits = ap (λ (row : List ℕ). get_or row 1 0) p.said in
    no_nan_bits f (rw same p.exact.finite)
no_nan x f (inr p) = absurd (zero_six (ap (λ (row : List ℕ). get_or row 0 0) p.said))
  where
    zero_six : ◌≡◌ {A = ℕ} 0 6 → ⊥
    zero_six e = omega arith

module _ (x : ℕ) (out : List ℕ) {m : Microseconds} (answers : Answers x (microseconds_row m)) where
  pub bits_there : {f : Float} → m ≡ Ok f → T (not (is_nan f))
  bits_there {f} known = no_nan x f (rw known at answers)

  pub bits_given : {f : Float} {gave : ℕ × List ℕ} → m ≡ Ok f → gave ≡ given_all (to_bits binary32 f ∷ []) out → GivesMicroseconds x out gave
  unfolding microseconds_row
  bits_given {f} known gave = record { row = exact_row (to_bits binary32 f); exact = rw known at answers; gives = gave }

  pub bits_refused : {n : ℕ} (r : Refusal) → m ≡ Err r → n ≡ packed (answer_refusal r) → GivesMicroseconds x out (n, out)
  unfolding microseconds_row
  bits_refused r known refuses = record { row = row_of r; exact = rw known at answers; gives = rw (refuses, not_success r, row_refusal r) }

-- whatever a raw value is answered by `micros`, it is given so
pub by_answer : {x : ℕ} {out row : List ℕ} {gave : ℕ × List ℕ} → GivesMicroseconds x out gave → Answers x row → gave ≡ by_row row (given_all (drop 1 row) out) out
by_answer {x} {out} g answers = g.gives ∙ ap (λ (row : List ℕ). by_row row (given_all (drop 1 row) out) out) (one_row x g.exact answers)

-- raw values and the f32 that they are answered by, as bits spelled here a second time: 880, 1500 and 2159.375 (RULES 12)
exactly : (x bits place : ℕ) (more : List ℕ) {gave : ℕ × List ℕ} → x ≤ greatest → EightTimes bits (eighths x) → GivesMicroseconds x (place ∷ more) gave
    → gave ≡ (packed (answer_count 1), bits ∷ more)
exactly x bits place more few exact g =
    by_answer g (inl (record { within = few; bits = bits; said = refl; exact = exact }))
    ∙ sym (given_all_lem (bits ∷ []) (place ∷ more) (answer_count 1) 1 refl (omega arith))

module _ (place : ℕ) (more : List ℕ) {gave : ℕ × List ℕ} where
  pub lowest_is : GivesMicroseconds 0 (place ∷ more) gave → gave ≡ (packed (answer_count 1), 0x445C_0000 ∷ more)
  lowest_is = exactly 0 0x445C_0000 place more (lit≤ tt) (record { above_zero = lit≤ tt; finite = lit≤ tt; exact = refl })

  pub middle_is : GivesMicroseconds 992 (place ∷ more) gave → gave ≡ (packed (answer_count 1), 0x44BB_8000 ∷ more)
  middle_is = exactly 992 0x44BB_8000 place more (lit≤ tt) (record { above_zero = lit≤ tt; finite = lit≤ tt; exact = refl })

  pub highest_is : GivesMicroseconds 2047 (place ∷ more) gave → gave ≡ (packed (answer_count 1), 0x4506_F600 ∷ more)
  highest_is = exactly 2047 0x4506_F600 place more (lit≤ tt) (record { above_zero = lit≤ tt; finite = lit≤ tt; exact = refl })

-- .. and a value above 2047 by refusal 6 of channel 0, with the slice unchanged, whether or not it has a place
pub above_is : (x : ℕ) (out : List ℕ) {gave : ℕ × List ℕ} → greatest < x → GivesMicroseconds x out gave → gave ≡ (packed (answer_refusal (ChannelRange 0)), out)
above_is x out above g =
    by_answer g (inr (record { above = above; said = refl })) ∙ ap (λ (t : HostAnswer). (packed t, out)) (row_refusal (ChannelRange 0))

-- ---- The raw view

module _ (s : List ℕ) where
  pub raw_shown : (v : RawView) → raw_row (Ok v) ≡ raw_of s → raw_bytes v.address v.kind v.check ≡ answer_raw (raw_of s)
  unfolding raw_row answer_raw
  raw_shown v shows = ap answer_raw shows

  pub raw_refused : {n : ℕ} (r : Refusal) → raw_row (Err r) ≡ raw_of s → n ≡ packed (answer_refusal r) → n ≡ answer_raw (raw_of s)
  unfolding raw_row answer_raw
  raw_refused r shows refuses = refuses ∙ rw (← shows, not_success r, row_refusal r)

-- ---- An entry that refuses says the refusal's number and what it carries

module _ (r : Refusal) where
  pub microseconds_refuse : (row out : List ℕ) → row ≡ row_of r → unpacked 8 (by_row row (given_all (drop 1 row) out) out).0 ≡ refusal_bytes 0 r
  microseconds_refuse row out e = rw e (simp (not_success r) (row_bytes r refl refl))

  pub raw_refuses : (row : List ℕ) → row ≡ row_of r → unpacked 8 (answer_raw row) ≡ refusal_bytes 0 r
  unfolding answer_raw
  raw_refuses row e = rw e (simp (not_success r) (row_bytes r refl refl))

-- ---- What a raw view says of the bytes

-- the answer to four bytes or more, and the bytes themselves: address, length byte, type, payload and check byte
pub record ShowsWhole (s answer : List ℕ) : Type 0 where
  pub address : ℕ
  pub len : ℕ
  pub kind : ℕ
  pub check : ℕ
  pub whole : s ≡ address ∷ len ∷ kind ∷ payload_of s ++ check ∷ []
  pub answer_is : answer ≡ 0 ∷ address ∷ kind ∷ check ∷ 0 ∷ 0 ∷ 0 ∷ 0 ∷ []

module _ (s : List ℕ) {r : ℕ} (answers : r ≡ answer_raw (raw_of s)) where
  pub raw_whole : Bytes s → 4 ≤ length s → ShowsWhole s (unpacked 8 r)
  unfolding raw_of answer_raw lowest_first
  raw_whole b four =
      let is : r ≡ raw_bytes (get_or s 0 0) (get_or s 2 0) (get_or s (length s - 1) 0) = rw (le-ltb (length s) 4 four) at answers in
      let t : HostAnswer = record { number = 0; taken = get_or s 0 0; in_state = get_or s 2 0; at = get_or s (length s - 1) 0; len = 0; first = 0; second = 0 } in
      record {
        address = get_or s 0 0;
        len = get_or s 1 0;
        kind = get_or s 2 0;
        check = get_or s (length s - 1) 0;
        whole = shown_whole s four;
        answer_is = ap (unpacked 8) is ∙ unpack t (record {
          number = lit< tt;
          taken = b 0;
          in_state = b 2;
          at = b (length s - 1);
          len = lit< tt;
          first = lit< tt;
          second = lit< tt;
        });
      }

  -- fewer are refused with 4
  pub raw_short : length s < 4 → unpacked 8 r ≡ refusal_bytes 0 InvalidPayloadLength
  unfolding raw_of answer_raw
  raw_short few = row_bytes InvalidPayloadLength (rw (lt-ltb (length s) 4 few) at answers) refl
