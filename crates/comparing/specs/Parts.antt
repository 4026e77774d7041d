-- What the functions of one turn promise.
-- Assumes nothing.
use Rattle.std.specs.Prelude.{ℕ, ◌+◌, ◌≤◌, ◌≡◌, List}
use Rattle.lines.specs.Put.{Puts}
use Rattle.comparing.specs.Call.{Comparing, longest_turn}
use Rattle.comparing.specs.declared.turn.Turned.{Turned}

-- a turn, with its text at a place of the buffer
pub record Turns (c : Comparing) (out : List ℕ) (at : ℕ) (outAfter : List ℕ) (r : Turned) : Type 0 where
  pub left_is : r.left ≡ c.left
  pub right_is : r.right ≡ c.right
  pub agree_is : r.counts.agree ≡ c.agree
  pub differ_is : r.counts.differ ≡ c.differ
  pub wants_is : r.wants ≡ c.wants
  pub puts : Puts out at c.text outAfter r.at
  pub short : r.at ≤ at + longest_turn
