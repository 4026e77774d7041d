-- What the writers answer fits a byte; and what is written where a record is made of a slice, or can't be made.
-- Assumes nothing.
use mathlib.Core.Path.{◌≡◌, refl}
use mathlib.Core.List.{List}
use Prim.Native.Nat.{ℕ, ◌<◌}
use native.Mathlib.Omega.{arith}
use borrow.Author.Tests.{eq-eqb, ne_eqb}
use lib.ListN.{length}
use Rattle.base.proofs.Tests.{by_test}
use Rattle.packets.specs.Listed.{listed}
use Rattle.refusals.specs.declared.Refusal.{Refusal}
use Rattle.refusals.specs.declared.Refusal.TheVariants.{InvalidPayloadLength}
use Rattle.writing.specs.Writing.{Image, bytes, refused, written_row, write_of}
use Rattle.channels.specs.Channels.{channels_count, channels_image}
use Rattle.layout.specs.Packet.{Small}
use Rattle.frames.specs.Frames.{framed_body, framed}
use Rattle.frames.proofs.Built.{frame_size_lem}
use Rattle.bursts.specs.Burst.{values_image}
use Rattle.bursts.proofs.Laws.{values_of, burst_long}
use Rattle.host_answer.specs.Answer.{packed, answer_row, in_bytes}
use Rattle.host_answer.proofs.Fits.{Short, write_fits, answered}
use Rattle.host.specs.Write.{writes, refused_for, sixteen_image}

-- a frame has less than 256 bytes
body_short : (dest kind : ℕ) (image : Image) → Small image → Short (framed_body dest kind image)
unfolding framed_body
body_short dest kind (bytes payload) small = omega (arith, small.1, frame_size_lem payload (length payload) dest kind refl)
body_short dest kind (refused r) small = tt

frame_short : (dest kind : ℕ) (image : Image) → Small image → Short (framed dest kind image)
unfolding framed
frame_short dest kind image small = by_test (listed dest) (λ t. simp t (body_short dest kind image small)) (λ t. simp t tt)

-- so an entry's answer follows from what the frame's writer promises
pub frame_answered : (dest kind : ℕ) (image : Image) (buffer : List ℕ) {row after : List ℕ} {r : ℕ} → (row, after) ≡ write_of (framed dest kind image) buffer
    → Small image → r ≡ packed (in_bytes (answer_row row)) → (r, after) ≡ writes dest kind image buffer
frame_answered dest kind image buffer e small = answered e (write_fits (framed dest kind image) buffer (frame_short dest kind image small))

-- so has a burst: eight frames at most
short_if : (image : Image) → ((bs : List ℕ) → image ≡ bytes bs → length bs < 256) → Short image
short_if (bytes bs) sized = sized bs refl
short_if (refused r) sized = tt

pub burst_short : (dest : ℕ) (numbers : List ℕ) (count : ℕ) → Short (values_image dest numbers count)
burst_short dest numbers count =
    short_if (values_image dest numbers count) (λ bs e. let b = values_of dest numbers count bs e in omega (arith, burst_long b, b.few))

-- ---- Records that are made of a slice

pub no_record : (dest kind : ℕ) (r : Refusal) (buffer : List ℕ) → (written_row (refused_for dest r), buffer) ≡ write_of (framed dest kind (refused r)) buffer
unfolding framed framed_body write_of written_row
no_record dest kind r buffer = by_test (listed dest) (λ t. simp t) (λ t. simp t)

pub is_sixteen : (cs : List ℕ) → length cs ≡ channels_count → sixteen_image cs ≡ channels_image (record { 0 = cs })
unfolding sixteen_image
is_sixteen cs h = simp (eq-eqb _ _ h)

pub not_sixteen : (cs : List ℕ) → (length cs ≡ channels_count → ⊥) → sixteen_image cs ≡ refused InvalidPayloadLength
unfolding sixteen_image
not_sixteen cs h = simp (ne_eqb _ _ h)
