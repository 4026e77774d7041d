-- What is seen of a call of the stream: all that its promise leaves one of. There is one exception (RULES 15): where held bytes stand in their places, and
-- the bytes beside them, on which nothing depends but a frame's offset in the state.
-- Assumes nothing.
use Rattle.std.specs.Prelude.{ℕ, zero, suc, ◌/◌, ◌%◌, List, [], ◌∷◌, ◌++◌, eqb, get_or, set}
use Rattle.base.specs.Choice.{when◌then◌else◌}
use Rattle.base.specs.Parts.{part}
use Rattle.refusals.specs.Row.{number_of}
use Rattle.refusals.specs.declared.Refusal.TheVariants.{BadState, PositionRange}
use Rattle.host_state.specs.State.{position_in, held_by}

-- that many bytes of a number, lowest first
unfoldable pub unpacked : ℕ → ℕ → List ℕ
unpacked zero n = []
unpacked (suc k) n = n % 256 ∷ unpacked k (n / 256)

pub record SeenCall : Type 0 where
  -- the eight bytes, with 0 for a frame's offset in the state
  pub answer : List ℕ
  -- the bytes of a frame in the state
  pub frame : List ℕ
  -- what is held, and where the state stands
  pub held : List ℕ
  pub position : ℕ
  -- of a state that is refused with 8 or 12, all of it
  pub refused : List ℕ
  -- the slice that is told where the answer began
  pub told : List ℕ

unfoldable pub seen_call : ℕ → List ℕ → List ℕ → SeenCall
seen_call r state out =
    let answer = unpacked 8 r in
    record {
      answer = when eqb (get_or answer 2 0) 1 then set answer 3 0 else answer;
      frame = when eqb (get_or answer 2 0) 1 then part state (get_or answer 3 0) (get_or answer 4 0) else [];
      held = held_by state;
      position = position_in state;
      refused = (when eqb (get_or answer 0 0) (number_of BadState) then state else []) ++ (when eqb (get_or answer 0 0) (number_of PositionRange) then state else []);
      told = out;
    }
