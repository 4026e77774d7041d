-- What a comparison asks for, as the program needs it: where more of an upload is asked for, its block has room.
-- Assumes nothing.
use mathlib.Core.Path.{◌≡◌, refl, sym}
use mathlib.Core.Bool.{Bool, true, true≢false}
use mathlib.Core.List.{List}
use Prim.Native.Nat.{ℕ, ◌+◌, ◌-◌, ◌≤◌}
use native.Mathlib.Omega.{arith}
use lib.ListN.{length, length-drop}
use Rattle.reading.specs.Reading.{limit}
use Rattle.comparing.specs.declared.Compared.{Compared}
use Rattle.comparing.specs.declared.Wants.{Wants}
use Rattle.comparing.specs.declared.Wants.TheVariants.{Left, Right, Room, Nothing, Refused}
use Rattle.comparing.proofs.Progress.{Asks}
use Rattle.comparing.specs.Call.{wants_left, wants_right}
use Rattle.diff_io.specs.State.{Sound, Short}

pub left_by : (w : Wants) → wants_left w ≡ true → w ≡ Left
left_by Left e = refl
left_by Right e = absurd (true≢false (sym e))
left_by Room e = absurd (true≢false (sym e))
left_by Nothing e = absurd (true≢false (sym e))
left_by (Refused r) e = absurd (true≢false (sym e))

pub right_by : (w : Wants) → wants_right w ≡ true → w ≡ Right
right_by Left e = absurd (true≢false (sym e))
right_by Right e = refl
right_by Room e = absurd (true≢false (sym e))
right_by Nothing e = absurd (true≢false (sym e))
right_by (Refused r) e = absurd (true≢false (sym e))

-- the bytes that are left unread of an upload of which more is asked for, in its block
module _ {left right : List ℕ} {lends rends : Bool} {n d room : ℕ} {c : Compared} (asks : Asks left right lends rends n d room c) {size from to : ℕ}
    (sound : Sound size from to) (there : limit ≤ size) where
  pub short_left : length left ≡ to - from → c.left ≤ length left → wants_left c.wants ≡ true → Short size (from + c.left) to
  short_left long inside e = record {
    sound = record { ordered = omega (arith, sound.ordered); inside = sound.inside };
    few = omega (arith, (asks.more_left (left_by c.wants e)).1, length-drop c.left left);
    room = there;
  }

  pub short_right : length right ≡ to - from → c.right ≤ length right → wants_right c.wants ≡ true → Short size (from + c.right) to
  short_right long inside e = record {
    sound = record { ordered = omega (arith, sound.ordered); inside = sound.inside };
    few = omega (arith, (asks.more_right (right_by c.wants e)).1, length-drop c.right right);
    room = there;
  }
