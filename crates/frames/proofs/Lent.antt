-- The law of the frame writers, `lent`: the record's own writer is lent the payload's places of the buffer, behind the head and before the check byte;
-- what it leaves there is framed, or its refusal is passed on and every byte kept. Its two cases: `lent_long`, where there is a place for a payload, and which
-- the writers cite, and `lent_short`. A writer that is lent no place refuses, and that is what the frame's writer answers: `lent_none`.
-- Assumes nothing.
use Rattle.std.specs.Prelude.{Ok, Err}
use mathlib.Core.Path.{◌≡◌, refl, sym, ap, subst, ◌∙◌}
use mathlib.Core.Bool.{true, false}
use mathlib.Core.List.{List}
use mathlib.Core.Logic.{⊎_elim}
use Prim.Native.Nat.{ℕ, ◌+◌, ◌-◌, ◌≤◌, ◌<◌}
use native.Mathlib.Omega.{arith}
use borrow.Author.Tests.{le-leb, lt-leb}
use lib.Dec.{leb}
use lib.ListN.{length, drop, length-drop}
use lib.Seq.{length-take-le}
use Rattle.base.specs.Choice.{when◌then◌else◌}
use Rattle.base.specs.Parts.{pasted}
use Rattle.base.proofs.Parts.{length_pasted, cut_out, around, around_kept, put_there}
use Rattle.base.proofs.Tests.{below}
use Rattle.packets.specs.Listed.{listed}
use Rattle.reading.specs.Reading.{limit}
use Rattle.refusals.specs.declared.Refusal.{Refusal}
use Rattle.refusals.specs.declared.Refusal.TheVariants.{BufferOverflow, BadAddress}
use Rattle.writing.specs.Writing.{Image, bytes, refused, written_row, write_of}
use Rattle.writing.specs.Writing.{Written}
use Rattle.writing.proofs.Writing.{writes, overflows, refuses}
use Rattle.writing.proofs.Rows.{one_write}
use Rattle.layout.specs.Packet.{Small}
use Rattle.frames.specs.Frames.{framed_body, framed, overhead, whole_in, sealed_of}
use Rattle.frames.proofs.Built.{short, sealed}

-- ---- the payload's places

-- where the payload starts in a buffer of that many bytes: behind the head. A buffer with no room for head and check byte has no place for one
abbrev pub payload_start : ℕ → ℕ
payload_start len = when leb overhead len then 3 else 0

pub start_short : (len : ℕ) → len < 4 → payload_start len ≡ 0
start_short len h = simp (lt-leb 4 len h)

pub start_long : (len : ℕ) → 4 ≤ len → payload_start len ≡ 3
start_long len h = simp (le-leb 4 len h)

-- ---- the law

-- what the record's own writer answered and left may be framed, and that is the frame to write
pub record Framed (dest kind : ℕ) (b : List ℕ) (from to : ℕ) (image : Image) (w : Written) (ys : List ℕ) : Type 0 where
  pub few : whole_in w ≤ limit
  pub enough : whole_in w ≤ length (around b from to ys)
  pub is : (r : Written) (after : List ℕ) → ◌≡◌ {A = Written × List ℕ} (r, after) (sealed_of dest kind w (around b from to ys))
      → (written_row r, after) ≡ write_of (framed_body dest kind image) b

module _ (dest kind : ℕ) (b : List ℕ) where
  again : {from to : ℕ} {image : Image} {w w' : Written} {ys ys' : List ℕ} → ◌≡◌ {A = Written × List ℕ} (w, ys) (w', ys')
      → Framed dest kind b from to image w' ys'
      → Framed dest kind b from to image w ys
  again {from} {to} {image} e f = subst (λ (x : Written × List ℕ). Framed dest kind b from to image x.0 x.1) (sym e) f

  -- a refusal is passed on
  passed : (from to : ℕ) (image : Image) (r : Refusal) → (written_row (Err r), b) ≡ write_of (framed_body dest kind image) b
      → Framed dest kind b from to image (Err r) (cut_out b from to)
  unfolding sealed_of
  passed from to image r h = record {
    few = omega arith;
    enough = omega arith;
    is = λ answer after q.
        ap (λ (x : Written × List ℕ). (written_row x.0, x.1)) q ∙ ap (λ (l : List ℕ). (written_row (Err r), l)) (around_kept b from to) ∙ h;
  }

  as_refused : (r : Refusal) → (written_row (Err r), b) ≡ write_of (framed_body dest kind (refused r)) b
  unfolding framed_body
  as_refused r = refuses r b

  -- behind the head, and before the check byte
  module _ (room : 4 ≤ length b) (to : ℕ) (ends : to ≡ length b - 1) where
    places_length : length (cut_out b 3 to) ≡ length b - 4
    places_length =
        let fits : to - 3 ≤ length (drop 3 b) = rw length-drop (omega arith) in
        length-take-le (to - 3) (drop 3 b) fits ∙ omega arith

    wrote : (pay : List ℕ) → length pay ≤ 60 → length pay + 4 ≤ length b
        → Framed dest kind b 3 to (bytes pay) (Ok (length pay)) (pasted (cut_out b 3 to) 0 pay)
    unfolding sealed_of
    wrote pay small fits =
        let there : around b 3 to (pasted (cut_out b 3 to) 0 pay) ≡ pasted b 3 pay = put_there b 3 to pay (omega (arith, places_length)) in
        let long : length (pasted b 3 pay) ≡ length b = length_pasted b 3 pay (omega arith) in
        record {
          few = omega arith;
          enough = rw there (omega arith);
          is = λ answer after q.
              ap (λ (x : Written × List ℕ). (written_row x.0, x.1)) q ∙ sealed pay (length pay) dest kind refl b fits there refl;
        }

    pub lent_long : (image : Image) {w : Written} {ys : List ℕ} → Small image → (written_row w, ys) ≡ write_of image (cut_out b 3 to)
        → Framed dest kind b 3 to image w ys
    lent_long (bytes pay) small e =
        ⊎_elim
        (λ (less : length b < length pay + 4).
        again (one_write e (overflows pay (cut_out b 3 to) (length pay) refl (omega (arith, places_length, small.0))))
        (passed 3 to (bytes pay) BufferOverflow (short pay (length pay) dest kind refl b less)))
        (λ (fits : length pay + 4 ≤ length b).
        again (one_write e (writes pay (cut_out b 3 to) (length pay) refl (omega (arith, places_length)))) (wrote pay small.1 fits))
        (below (length b) (length pay + 4))
    lent_long (refused r) small e = again (one_write e (refuses r (cut_out b 3 to))) (passed 3 to (refused r) r (as_refused r))

  -- no place at all: the record's own writer refuses, and so does the frame's
  lent_short : (image : Image) {w : Written} {ys : List ℕ} → length b < 4 → Small image → (written_row w, ys) ≡ write_of image (cut_out b 0 0)
      → Framed dest kind b 0 0 image w ys
  lent_short (bytes pay) none small e =
      again (one_write e (overflows pay (cut_out b 0 0) (length pay) refl small.0))
      (passed 0 0 (bytes pay) BufferOverflow (short pay (length pay) dest kind refl b (omega arith)))
  lent_short (refused r) none small e = again (one_write e (refuses r (cut_out b 0 0))) (passed 0 0 (refused r) r (as_refused r))

  -- .. and a writer that is lent no place refuses, and that is what the frame's writer answers
  said : {w w' : Written} {ys : List ℕ} {x : List ℕ × List ℕ} → ◌≡◌ {A = Written × List ℕ} (w, ys) (w', cut_out b 0 0)
      → (written_row w', b) ≡ x
      → (written_row w, around b 0 0 ys) ≡ x
  said {w} {w'} same h =
      ap (λ (y : Written × List ℕ). (written_row y.0, around b 0 0 y.1)) same
      ∙ ap (λ (l : List ℕ). (written_row w', l)) (around_kept b 0 0) ∙ h

  pub lent_none : (image : Image) (w : Written) {ys : List ℕ} → length b < 4 → Small image → (written_row w, ys) ≡ write_of image (cut_out b 0 0)
      → (written_row w, around b 0 0 ys) ≡ write_of (framed_body dest kind image) b
  lent_none (bytes pay) w none small e =
      said (one_write e (overflows pay (cut_out b 0 0) (length pay) refl small.0)) (short pay (length pay) dest kind refl b (omega arith))
  lent_none (refused r) w none small e = said (one_write e (refuses r (cut_out b 0 0))) (as_refused r)

-- every buffer
module _ (dest kind : ℕ) (b : List ℕ) (from to : ℕ) (starts : from ≡ payload_start (length b)) (ends : to ≡ payload_start (length b) + (length b - 4)) where
  pub lent : (image : Image) {w : Written} {ys : List ℕ} → Small image → (written_row w, ys) ≡ write_of image (cut_out b from to)
      → Framed dest kind b from to image w ys
  lent image small e =
      ⊎_elim
      (λ (less : length b < 4).
      let front : from ≡ 0 = starts ∙ start_short (length b) less in
      let back : to ≡ 0 = omega (arith, start_short (length b) less) in
      rw (front, back) (lent_short dest kind b image less small (rw (front, back) at e)))
      (λ (room : 4 ≤ length b).
      let front : from ≡ 3 = starts ∙ start_long (length b) room in
      let back : to ≡ length b - 1 = omega (arith, start_long (length b) room) in
      rw front (lent_long dest kind b room to back image small (rw front at e)))
      (below (length b) 4)

-- ---- the address is tested first

module _ (dest kind : ℕ) (image : Image) (b : List ℕ) where
  pub unlisted : listed dest ≡ false → (written_row (Err BadAddress), b) ≡ write_of (framed dest kind image) b
  unfolding framed
  unlisted none = rw none (refuses BadAddress b)

  pub addressed_as : listed dest ≡ true → {x : List ℕ × List ℕ} → x ≡ write_of (framed_body dest kind image) b → x ≡ write_of (framed dest kind image) b
  unfolding framed
  addressed_as address e = rw address e

  pub addressed : {from to : ℕ} {w : Written} {ys : List ℕ} → listed dest ≡ true → Framed dest kind b from to image w ys
      → {r : Written} {after : List ℕ} → ◌≡◌ {A = Written × List ℕ} (r, after) (sealed_of dest kind w (around b from to ys))
      → (written_row r, after) ≡ write_of (framed dest kind image) b
  addressed address f {r} {after} q = addressed_as address (f.is r after q)
