-- A reply that means a frame points at its bytes. Assumes nothing.
use mathlib.Core.Path.{◌≡◌}
use mathlib.Core.Bool.{Bool}
use mathlib.Core.List.{List}
use Prim.Native.Nat.{ℕ}
use native.Mathlib.Omega.{arith}
use Rattle.stream.specs.Step.{frame, meaning_of}
use Rattle.stream.specs.declared.step.Reply.{Reply}
use Rattle.stream.specs.declared.step.Reply.TheVariants.{More, Frame, Refused}
use Rattle.view.specs.View.{frame_of, of_held}

clash : ◌≡◌ {A = ℕ} 0 1 → ⊥
clash e = omega arith

pub pointed : (reply : Reply) (piece places : List ℕ) {b : Bool} {c : List ℕ} → meaning_of reply piece places ≡ frame b c
    → (of_held reply ≡ b) × (frame_of reply piece places ≡ c)
unfolding meaning_of frame_of of_held
pointed More piece places e = absurd (clash (cc))
pointed (Frame p) piece places e = (cc, cc)
pointed (Refused r) piece places e = absurd (clash (cc))
