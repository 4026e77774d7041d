-- What a call left: where a writer says that it wrote, all of its bytes at the front; where it refuses, every byte as it was.
-- Assumes nothing.
use Rattle.std.specs.Prelude.{Ok, Err}
use Prim.Native.Nat.{ℕ, ◌≤◌}
use mathlib.Core.Path.{◌≡◌, refl, sym, ap, subst, ◌∙◌}
use mathlib.Core.List.{List, []}
use borrow.Author.Tests.{leb-true}
use lib.Dec.{leb}
use lib.ListN.{length, get_or, take, drop}
use lib.Seq.{take_at}
use Rattle.base.specs.Parts.{pasted}
use Rattle.base.proofs.Parts.{pasted_front}
use Rattle.base.proofs.Tests.{by_test}
use Rattle.refusals.specs.Row.{row_of}
use Rattle.refusals.specs.declared.Refusal.{Refusal}
use Rattle.refusals.specs.declared.Refusal.TheVariants.{BufferOverflow}
use Rattle.refusals.proofs.Rows.{not_zero}
use Rattle.writing.specs.Writing.{Image, bytes, refused, wrote_row, written_row, write_of}

-- a refusal is no bytes
abbrev IsBytes : Image → Type 0
IsBytes (bytes bs) = Unit {0}
IsBytes (refused r) = ⊥

pub no_bytes : {image : Image} {r : Refusal} {bs : List ℕ} → image ≡ refused r → image ≡ bytes bs → ⊥
no_bytes e f = subst IsBytes (sym f ∙ e) tt

-- and bytes are known by their image
abbrev bytes_in : Image → List ℕ
bytes_in (bytes bs) = bs
bytes_in (refused r) = []

pub same_bytes_lem : {image : Image} {bs cs : List ℕ} → image ≡ bytes bs → image ≡ bytes cs → bs ≡ cs
same_bytes_lem e f = ap bytes_in (sym e ∙ f)

-- bytes that were written, all of them
pub record Left (bs buffer : List ℕ) (n : ℕ) (after : List ℕ) : Type 0 where
  pub count : n ≡ length bs
  pub room : length bs ≤ length buffer
  pub content : after ≡ pasted buffer 0 bs

pub left : (bs buffer : List ℕ) (n : ℕ) {after : List ℕ} → (written_row (Ok n), after) ≡ write_of (bytes bs) buffer → Left bs buffer n after
unfolding write_of written_row
left bs buffer n {after} e =
    by_test (leb (length bs) (length buffer))
    (λ f.
    let q : (wrote_row n, after) ≡ (wrote_row (length bs), pasted buffer 0 bs) = simp f at e in
    record {
      count = ap (λ (x : List ℕ × List ℕ). get_or x.0 1 0) q;
      room = leb-true _ _ f;
      content = ap (λ (x : List ℕ × List ℕ). x.1) q;
    })
    (λ f.
    let q : (wrote_row n, after) ≡ (row_of BufferOverflow, buffer) = simp f at e in
    absurd (not_zero BufferOverflow (sym (ap (λ (x : List ℕ × List ℕ). x.0) q))))

-- so whoever reads as many bytes as the answer says reads these
pub at_front : (bs buffer : List ℕ) (n : ℕ) {after : List ℕ} → Left bs buffer n after → take n after ≡ bs
at_front bs buffer n l = ap (take n) (l.content ∙ pasted_front buffer bs) ∙ take_at bs (drop (length bs) buffer) n (sym l.count)

-- a call that says that it wrote had bytes to write
pub record WroteBytes (image : Image) (buffer : List ℕ) (n : ℕ) (after : List ℕ) : Type 0 where
  pub written : List ℕ
  pub is : image ≡ bytes written
  pub left_so : Left written buffer n after

pub wrote_bytes : (image : Image) (buffer : List ℕ) (n : ℕ) {after : List ℕ} → (written_row (Ok n), after) ≡ write_of image buffer → WroteBytes image buffer n after
unfolding write_of written_row
wrote_bytes (bytes bs) buffer n e = record { written = bs; is = refl; left_so = left bs buffer n e }
wrote_bytes (refused r) buffer n e = absurd (not_zero r (sym (ap (λ (x : List ℕ × List ℕ). x.0) e)))

-- a refused call changes no byte
pub kept : (image : Image) (r : Refusal) {buffer after : List ℕ} → (written_row (Err r), after) ≡ write_of image buffer → after ≡ buffer
unfolding write_of written_row
kept (refused s) r e = ap (λ (x : List ℕ × List ℕ). x.1) e
kept (bytes bs) r {buffer} {after} e =
    by_test (leb (length bs) (length buffer))
    (λ f.
    let q : (row_of r, after) ≡ (wrote_row (length bs), pasted buffer 0 bs) = simp f at e in
    absurd (not_zero r (ap (λ (x : List ℕ × List ℕ). x.0) q)))
    (λ f.
    let q : (row_of r, after) ≡ (row_of BufferOverflow, buffer) = simp f at e in
    ap (λ (x : List ℕ × List ℕ). x.1) q)
