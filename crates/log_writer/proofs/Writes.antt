-- What the writer of an entry answers and leaves at each return.
-- Assumes nothing.
use Rattle.std.specs.Prelude.{Ok, Err}
use mathlib.Core.Path.{◌≡◌, refl, sym, ap, ◌∙◌}
use mathlib.Core.Bool.{true, false}
use mathlib.Core.List.{List, [], ◌++◌, append_assoc, append-nil}
use Prim.Native.Nat.{ℕ, ◌+◌, ◌≤◌}
use native.Mathlib.Nat.{zero-add}
use native.Mathlib.Omega.{arith}
use borrow.Author.Tests.{leb-true, leb-false}
use lib.ListN.{length, length-append}
use Rattle.base.specs.Parts.{fits_in, pasted, copied}
use Rattle.base.proofs.Parts.{length_pasted, pasted_append, paste_all, copied_fits}
use Rattle.refusals.specs.declared.Refusal.TheVariants.{BufferOverflow, InvalidFrame}
use Rattle.writing.specs.Writing.{bytes, written_row, write_of}
use Rattle.writing.proofs.Writing.{writes, overflows, refuses}
use Rattle.groups.specs.Groups.{groups}
use Rattle.groups.specs.Writing.{put_of}
use Rattle.groups.proofs.Steps.{groups_few}
use Rattle.groups.proofs.Laws.{put_fits, put_front}
use Rattle.kit_log.specs.Entry.{entry_bytes, entries_bytes, log_bytes}
use Rattle.log_writer.specs.Writer.{start_image, is_frame, entry_image}

-- the number 1 is the log without entries
pub start_is : log_bytes [] ≡ groups 1
unfolding log_bytes entries_bytes
start_is = append-nil (groups 1)

pub start_written : {row after : List ℕ} (out : List ℕ) → (row, after) ≡ put_of 1 0 out → (row, after) ≡ write_of start_image out
start_written out e = e ∙ put_front 1 out ∙ ap (λ (l : List ℕ). write_of (bytes l) out) (sym start_is)

-- no number of 64 bits has more groups
pub few : (n : ℕ) → length (groups n) ≤ n + 1
few n = groups_few n

module _ (t : ℕ) (c out : List ℕ) where
  abbrev pub entry_of : List ℕ
  entry_of = entry_bytes (record { seconds = t; frame = c })

  pub entry_refused : is_frame c ≡ false → (written_row (Err InvalidFrame), out) ≡ write_of (entry_image t c) out
  unfolding entry_image
  entry_refused e = rw e (refuses InvalidFrame out)

  -- the two numbers as the code counts them, and the test on the room behind them
  module _ (whole : is_frame c ≡ true) {k l : ℕ} (first : k ≡ length (groups t)) (second : l ≡ length (groups (length c))) where
    pub entry_long : length entry_of ≡ k + l + length c
    unfolding entry_bytes
    entry_long = omega (arith, length-append (groups t) (groups (length c) ++ c), length-append (groups (length c)) c)

    pub entry_short : fits_in (length out) (k + l) (length c) ≡ false → (written_row (Err BufferOverflow), out) ≡ write_of (entry_image t c) out
    unfolding entry_image
    entry_short f = rw whole (overflows entry_of out (k + l + length c) entry_long (leb-false (k + l + length c) (length out) f))

    pub room : fits_in (length out) (k + l) (length c) ≡ true → k + l + length c ≤ length out
    room f = leb-true (k + l + length c) (length out) f

    module _ (fits : k + l + length c ≤ length out) {row₁ a row₂ b d : List ℕ} where
      entry_left : (row₁, a) ≡ put_of t 0 out → (row₂, b) ≡ put_of (length c) k a → d ≡ copied b (k + l) c (length c) → d ≡ pasted out 0 entry_of
      unfolding entry_bytes
      entry_left put₁ put₂ copies =
          let xs = groups t in
          let ys = groups (length c) in
          let a_is : a ≡ pasted out 0 xs = put_fits t 0 out (omega arith) put₁ in
          let a_long : length a ≡ length out = ap length a_is ∙ length_pasted out 0 xs (omega arith) in
          let b_is : b ≡ pasted out 0 (xs ++ ys) =
          put_fits (length c) k a (omega arith) put₂
          ∙ ap (λ (s : List ℕ). pasted s k ys) a_is
          ∙ ap (λ (j : ℕ). pasted (pasted out 0 xs) j ys) (sym (zero-add k))
          ∙ pasted_append out 0 k xs ys (sym first) (omega arith) in
          let both : length (xs ++ ys) ≡ k + l = length-append xs ys ∙ omega arith in
          let b_long : length b ≡ length out = ap length b_is ∙ length_pasted out 0 (xs ++ ys) (omega arith) in
          copies
          ∙ copied_fits b (k + l) c (length c) (omega arith) (omega arith)
          ∙ paste_all b (k + l) c (length c) refl
          ∙ ap (λ (s : List ℕ). pasted s (k + l) c) b_is
          ∙ ap (λ (j : ℕ). pasted (pasted out 0 (xs ++ ys)) j c) (sym (zero-add (k + l)))
          ∙ pasted_append out 0 (k + l) (xs ++ ys) c both (omega arith)
          ∙ ap (pasted out 0) (append_assoc xs ys c)

      pub entry_written : (row₁, a) ≡ put_of t 0 out → (row₂, b) ≡ put_of (length c) k a → d ≡ copied b (k + l) c (length c)
          → (written_row (Ok (k + l + length c)), d) ≡ write_of (entry_image t c) out
      unfolding entry_image
      entry_written put₁ put₂ copies = rw (whole, entry_left put₁ put₂ copies) (writes entry_of out (k + l + length c) entry_long fits)
