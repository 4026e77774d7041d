-- Every edge of the table has its bytes, or its refusal.
-- Assumes nothing.
use mathlib.Core.Path.{◌≡◌, refl, ap, ◌∙◌}
use mathlib.Core.Bool.{true}
use mathlib.Core.List.{List, [], ◌∷◌, ◌++◌, map}
use Prim.Native.Nat.{ℕ}
use lib.Dec.{lit<, lit≤}
use Rattle.packets.specs.Listed.{listed}
use Rattle.crc.specs.Remainder.{remainder, remainder_from, after_byte, shifts, shift_bit}
use Rattle.reading.specs.Reading.{passes}
use Rattle.groups.specs.Groups.{groups_within, groups}
use Rattle.groups.proofs.Groups.{one_group, more_groups}
use Rattle.writing.specs.Writing.{bytes}
use Rattle.kit_log.specs.Entry.{greatest, entry_bytes}
use Rattle.kit_log.specs.Reading.{fine}
use Rattle.log_writer.specs.Writer.{is_frame, entry_image}
use Rattle.log_writer.proofs.Frames.{test_valid}
use Rattle.log_writer.proofs.Laws.{image_valid}
use Rattle.log_writer.specs.Edges.{Edge, ping, edges}

pub edges_hold : map (λ (e : Edge). entry_image e.seconds e.frame) edges ≡ map (λ (e : Edge). e.image) edges
unfolding listed remainder remainder_from after_byte shifts shift_bit passes groups_within groups entry_bytes fine is_frame entry_image
edges_hold = refl

-- 2^32 - 1 is FF FF FF FF 0F
greatest_groups : groups greatest ≡ 0xFF ∷ 0xFF ∷ 0xFF ∷ 0xFF ∷ 0x0F ∷ []
greatest_groups =
    let on : List ℕ → List ℕ = λ s. 0xFF ∷ s in
    more_groups greatest (lit≤ tt)
    ∙ ap on (more_groups 33554431 (lit≤ tt) ∙ ap on (more_groups 262143 (lit≤ tt) ∙ ap on (more_groups 2047 (lit≤ tt) ∙ ap on (one_group 15 (lit< tt)))))

ping_is : is_frame ping ≡ true
unfolding listed remainder remainder_from after_byte shifts shift_bit passes fine is_frame
ping_is = refl

pub greatest_seconds : entry_image greatest ping ≡ bytes (0xFF ∷ 0xFF ∷ 0xFF ∷ 0xFF ∷ 0x0F ∷ 4 ∷ ping)
unfolding entry_bytes
greatest_seconds =
    image_valid greatest ping (test_valid ping ping_is)
    ∙ ap (λ (l : List ℕ). bytes (l ++ (groups 4 ++ ping))) greatest_groups
    ∙ ap (λ (l : List ℕ). bytes (0xFF ∷ 0xFF ∷ 0xFF ∷ 0xFF ∷ 0x0F ∷ (l ++ ping))) (one_group 4 (lit< tt))
