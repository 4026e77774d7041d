-- What the writer's steps leave, head and check byte about a payload in its place, is the frame.
-- Assumes nothing.
use Rattle.std.specs.Prelude.{Ok, Err}
use mathlib.Core.Path.{◌≡◌, sym, ap, ◌∙◌}
use mathlib.Core.List.{List, [], ◌∷◌, ◌++◌, append_assoc}
use Prim.Native.Nat.{ℕ, suc, ◌+◌, ◌≤◌, ◌<◌}
use native.Mathlib.Nat.{zero-add}
use native.Mathlib.Omega.{arith}
use lib.ListN.{length, take, drop, length-append, take-append-drop}
use lib.Seq.{slice, take_at, drop_at, drop-drop, length-take-le}
use Rattle.base.specs.Parts.{part, pasted}
use Rattle.base.proofs.Parts.{pasted_append, pasted_front, length_part}
use Rattle.crc.specs.Remainder.{remainder}
use Rattle.reading.specs.Frame.{frame}
use Rattle.refusals.specs.declared.Refusal.TheVariants.{BufferOverflow}
use Rattle.writing.specs.Writing.{bytes, written_row, write_of}
use Rattle.writing.proofs.Writing.{writes, overflows}
use Rattle.frames.specs.Frames.{framed_body}

module _ (n dest kind : ℕ) (b : List ℕ) (room : n + 4 ≤ length b) where
  pay : List ℕ
  pay = part b 3 n

  head : List ℕ
  head = dest ∷ (n + 2) ∷ kind ∷ []

  -- all but the check byte
  front : List ℕ
  front = dest ∷ (n + 2) ∷ kind ∷ pay

  front_length : length front ≡ n + 3
  unfolding front pay
  front_length = omega (arith, length_part b 3 n (omega arith))

  with_payload : pasted b 0 head ≡ pasted b 0 front
  unfolding head front pay
  with_payload =
      let e : 3 + n ≡ length front = omega (arith, front_length) in
      pasted_front b head
      ∙ ap (λ (l : List ℕ). head ++ l) (sym (take-append-drop n (drop 3 b)))
      ∙ ap (λ (l : List ℕ). front ++ l) (drop-drop n 3 b ∙ ap (λ (k : ℕ). drop k b) e)
      ∙ sym (pasted_front b front)

  body_is : slice 2 (n + 3) (pasted b 0 front) ≡ kind ∷ pay
  unfolding front
  body_is = ap (λ (l : List ℕ). drop 2 (take (n + 3) l)) (pasted_front b front) ∙ ap (drop 2) (take_at front (drop (length front) b) (n + 3) front_length)

  whole : front ++ (remainder (kind ∷ pay) ∷ []) ≡ frame dest (kind ∷ pay)
  unfolding front frame
  whole =
      let e : n + 2 ≡ suc (length pay) + 1 = omega (arith, front_length) in
      ap (λ (k : ℕ). dest ∷ k ∷ kind ∷ pay ++ remainder (kind ∷ pay) ∷ []) e

  pub frame_built : pasted (pasted b 0 (dest ∷ (n + 2) ∷ kind ∷ [])) (n + 3)
      (remainder (slice 2 (n + 3) (pasted b 0 (dest ∷ (n + 2) ∷ kind ∷ []))) ∷ [])
      ≡ pasted b 0 (frame dest (kind ∷ part b 3 n))
  unfolding head pay
  frame_built =
      ap (λ (l : List ℕ). pasted l (n + 3) (remainder (slice 2 (n + 3) l) ∷ [])) with_payload
      ∙ ap (λ (l : List ℕ). pasted (pasted b 0 front) (n + 3) (remainder l ∷ [])) body_is
      ∙ ap (λ (k : ℕ). pasted (pasted b 0 front) k (remainder (kind ∷ pay) ∷ [])) (sym (zero-add (n + 3)))
      ∙ pasted_append b 0 (n + 3) front (remainder (kind ∷ pay) ∷ []) front_length (omega arith)
      ∙ ap (pasted b 0) whole

-- a frame about a payload put in its place first: nothing else is left of that
module _ (pay : List ℕ) (n dest kind : ℕ) (long : length pay ≡ n) where
  -- as many bytes as are answered
  pub frame_size_lem : length (frame dest (kind ∷ pay)) ≡ n + 4
  unfolding frame
  frame_size_lem = omega (arith, length-append pay (remainder (kind ∷ pay) ∷ []))

  module _ (b : List ℕ) where
    pub short : length b < n + 4 → (written_row (Err BufferOverflow), b) ≡ write_of (framed_body dest kind (bytes pay)) b
    unfolding framed_body
    short = overflows (frame dest (kind ∷ pay)) b (n + 4) frame_size_lem

    module _ (room : n + 4 ≤ length b) where
      there : part (pasted b 3 pay) 3 n ≡ pay
      unfolding pasted
      there =
          ap (λ (l : List ℕ). take n (drop 3 l)) (append_assoc (take 3 b) pay (drop (3 + length pay) b))
          ∙ ap (take n) (drop_at (take 3 b) (pay ++ drop (3 + length pay) b) 3 (length-take-le 3 b (omega arith)))
          ∙ take_at pay (drop (3 + length pay) b) n long

      behind : drop (n + 4) (pasted b 3 pay) ≡ drop (n + 4) b
      unfolding pasted
      behind =
          let p : List ℕ = take 3 b ++ pay in
          let three : length (take 3 b) ≡ 3 = length-take-le 3 b (omega arith) in
          let e : 3 + length pay + 1 ≡ n + 4 = omega arith in
          let f : n + 4 ≡ n + 3 + 1 = omega arith in
          ap (λ (k : ℕ). drop k (p ++ drop (3 + length pay) b)) f
          ∙ sym (drop-drop 1 (n + 3) (p ++ drop (3 + length pay) b))
          ∙ ap (drop 1) (drop_at p (drop (3 + length pay) b) (n + 3) (length-append (take 3 b) pay ∙ omega arith))
          ∙ drop-drop 1 (3 + length pay) b
          ∙ ap (λ (k : ℕ). drop k b) e

      covered : pasted (pasted b 3 pay) 0 (frame dest (kind ∷ pay)) ≡ pasted b 0 (frame dest (kind ∷ pay))
      covered =
          let f : List ℕ = frame dest (kind ∷ pay) in
          pasted_front (pasted b 3 pay) f
          ∙ ap (λ (k : ℕ). f ++ drop k (pasted b 3 pay)) frame_size_lem
          ∙ ap (λ (l : List ℕ). f ++ l) behind
          ∙ ap (λ (k : ℕ). f ++ drop k b) (sym frame_size_lem)
          ∙ sym (pasted_front b f)

      pub stored : {b' after : List ℕ} → b' ≡ pasted b 3 pay → after ≡ pasted b' 0 (frame dest (kind ∷ part b' 3 n)) → after ≡ pasted b 0 (frame dest (kind ∷ pay))
      stored e sealed-so =
          sealed-so
          ∙ ap (λ (l : List ℕ). pasted l 0 (frame dest (kind ∷ part l 3 n))) e
          ∙ ap (λ (l : List ℕ). pasted (pasted b 3 pay) 0 (frame dest (kind ∷ l))) there
          ∙ covered

      pub sealed : {b' after : List ℕ} → b' ≡ pasted b 3 pay → after ≡ pasted b' 0 (frame dest (kind ∷ part b' 3 n))
          → (written_row (Ok (n + 4)), after) ≡ write_of (framed_body dest kind (bytes pay)) b
      unfolding framed_body
      sealed e sealed-so = rw (stored e sealed-so) (writes (frame dest (kind ∷ pay)) b (n + 4) frame_size_lem room)
