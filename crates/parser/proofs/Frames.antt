-- Where a call's answer is a frame, `view::frame` returns that frame's bytes, and of the slice that RULES 6.5 says: the held bytes' places where
-- some were held at the start of the call, else the caller's piece. Assumes nothing.
use mathlib.Core.Path.{◌≡◌, ap, ◌∙◌}
use mathlib.Core.Bool.{Bool, true}
use mathlib.Core.List.{List}
use Prim.Native.Nat.{ℕ}
use lib.Dec.{ltb}
use lib.ListN.{length}
use Rattle.reading.specs.Answer.{Frame}
use Rattle.reading.specs.Reading.{First, says, limit}
use Rattle.reading.specs.Call.{call}
use Rattle.stream.specs.Step.{frame, said_of}
use Rattle.stream.proofs.Replies.{said_is}
use Rattle.parser.specs.declared.CrsfParser.{CrsfParser}
use Rattle.parser.specs.declared.Stepped.{Stepped}
use Rattle.parser.specs.Parser.{held_by, is_state, can_take, Nexts}
use Rattle.view.specs.View.{frame_of, of_held}
use Rattle.view.proofs.Pointed.{pointed}
use Rattle.parser.proofs.Held.{moves_on}

said_frame : (b : Bool) (c : List ℕ) {f : First} → f ≡ says (Frame c) → said_of b f ≡ frame b c
unfolding said_of
said_frame b c e = ap (said_of b) e

module _ {p : CrsfParser} {input : List ℕ} {r : Stepped} {c : List ℕ} (good : is_state p ≡ true) (fits : can_take p input ≡ true) (n : Nexts p input r)
    (e : (call limit (held_by p) input).answer ≡ says (Frame c)) where
  both : (of_held r.answered.reply ≡ ltb 0 (length (held_by p))) × (frame_of r.answered.reply input r.parser.buffer ≡ c)
  both = pointed r.answered.reply input r.parser.buffer (said_is (moves_on good fits n) ∙ said_frame (ltb 0 (length (held_by p))) c e)

  -- these are the frame's bytes
  pub frame_bytes : frame_of r.answered.reply input r.parser.buffer ≡ c
  frame_bytes = both.1

  -- and of the held bytes where something was held
  pub frame_from : of_held r.answered.reply ≡ ltb 0 (length (held_by p))
  frame_from = both.0
