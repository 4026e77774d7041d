-- One call of a comparison: turns, one after another, while there is room for the longest lines (RULES 19). A turn looks at what stands first in what is
-- left of both uploads.
-- Assumes nothing.
use Rattle.std.specs.Prelude.{ℕ, zero, suc, ◌+◌, ◌-◌, ◌≤◌, Bool, true, false, ◌&&◌, not, List, [], ◌++◌, ltb, length, drop}
use Rattle.base.specs.Choice.{when◌then◌else◌}
use Rattle.base.specs.Same.{same_bytes}
use Rattle.base.specs.Parts.{pasted}
use Rattle.refusals.specs.declared.Refusal.TheVariants.{PositionRange}
use Rattle.reading.specs.Reading.{limit, First, stops, first}
use Rattle.reading.specs.Call.{dropped_by}
use Rattle.reading.specs.Positions.{is_within}
use Rattle.lines.specs.Lines.{longest, longest_position}
use Rattle.pairs.specs.Pairs.{pair, side_of, agrees}
use Rattle.pairs.specs.Comparison.{tail_word, agree_word, differ_word, bar, place_line, tail_line, last_line, if_same, if_other}
use Rattle.comparing.specs.declared.Wants.{Wants}
use Rattle.comparing.specs.declared.Wants.TheVariants.{Left, Right, Room, Nothing, Refused}
use Rattle.comparing.specs.declared.Compared.{Compared}

pub record Comparing : Type 0 where
  -- the bytes written
  pub text : List ℕ
  -- how many bytes of each side are done with
  pub left : ℕ
  pub right : ℕ
  -- how many pairs agreed and differed so far
  pub agree : ℕ
  pub differ : ℕ
  -- what is asked for; of a turn: `Room` is to go on
  pub wants : Wants

-- ---- One turn

-- nothing is written or taken
abbrev pub stays : ℕ → ℕ → Wants → Comparing
stays n d w = record { text = []; left = 0; right = 0; agree = n; differ = d; wants = w }

-- the next pair: one more that agrees, or one more that differs, and its line
abbrev pub settles : ℕ → ℕ → First → First → Comparing
settles n d f g = let p = pair (side_of f) (side_of g) in record {
  text = place_line (suc (n + d)) p;
  left = dropped_by f;
  right = dropped_by g;
  agree = n + if_same (agrees p);
  differ = d + if_other (agrees p);
  wants = Room;
}

-- the pair of the tails s and t, and the last line
abbrev pub closes : ℕ → ℕ → List ℕ → List ℕ → Comparing
closes n d s t = let same = same_bytes s t in record {
  text = tail_line s t ++ last_line (n + if_same same) (d + if_other same);
  left = 0;
  right = 0;
  agree = n + if_same same;
  differ = d + if_other same;
  wants = Nothing;
}

-- no answer can be given yet, and more bytes may come
abbrev pub hungry : Bool → First → Bool
hungry ends f = stops f && not ends

-- more bytes are asked for, of the left upload first; where both have ended and no answer is left, all that is left is the tails; else there is a pair
unfoldable pub turn_of : ℕ → ℕ → Bool → Bool → List ℕ → List ℕ → Comparing
turn_of n d lends rends s t =
    let f = first limit s in
    let g = first limit t in
    when hungry lends f then stays n d Left else
    when hungry rends g then stays n d Right else
    when stops f && stops g then closes n d s t else
    settles n d f g

-- ---- As many as there is room for

-- no turn writes more than the lines of the tails and of the counts, which are longer than that of a place
abbrev pub longest_tails : ℕ
longest_tails = length tail_word + longest + length bar + longest

abbrev pub longest_last : ℕ
longest_last = length agree_word + longest_position + length differ_word + longest_position

abbrev pub longest_pair : ℕ
longest_pair = longest_position + longest + length bar + longest

abbrev pub longest_turn : ℕ
longest_turn = longest_tails + longest_last

abbrev pub goes_on : Wants → Bool
goes_on Left = false
goes_on Right = false
goes_on Room = true
goes_on Nothing = false
goes_on (Refused r) = false

abbrev pub wants_left : Wants → Bool
wants_left Left = true
wants_left Right = false
wants_left Room = false
wants_left Nothing = false
wants_left (Refused r) = false

abbrev pub wants_right : Wants → Bool
wants_right Left = false
wants_right Right = true
wants_right Room = false
wants_right Nothing = false
wants_right (Refused r) = false

-- nothing is to come
abbrev pub is_whole : Wants → Bool
is_whole Left = false
is_whole Right = false
is_whole Room = false
is_whole Nothing = true
is_whole (Refused r) = false

-- a turn, and then a comparison of what it leaves
abbrev pub after : Comparing → Comparing → Comparing
after c more = record {
  text = c.text ++ more.text;
  left = c.left + more.left;
  right = c.right + more.right;
  agree = more.agree;
  differ = more.differ;
  wants = more.wants;
}

-- at most that many turns
unfoldable pub turns_within : ℕ → ℕ → ℕ → ℕ → Bool → Bool → List ℕ → List ℕ → Comparing
turns_within zero room n d lends rends s t = stays n d Room
turns_within (suc most) room n d lends rends s t =
    when ltb room longest_turn then stays n d Room else
    (let c = turn_of n d lends rends s t in
    when goes_on c.wants then
    after c (turns_within most (room - length c.text) c.agree c.differ lends rends (drop c.left s) (drop c.right t))
    else c)

-- each but the last takes a byte at least
abbrev pub compare_of : ℕ → ℕ → ℕ → Bool → Bool → List ℕ → List ℕ → Comparing
compare_of room n d lends rends s t = turns_within (suc (length s + length t)) room n d lends rends s t

-- ---- What the call shows

abbrev pub shown : Comparing → Compared
shown c = record { left = c.left; right = c.right; counts = record { agree = c.agree; differ = c.differ }; written = length c.text; wants = c.wants }

-- no more is done with than there is, and no more is written than there is room for. It follows from what is shown, and is promised beside it so that a
-- caller need not prove how long a text is
pub record Within (left right room : ℕ) (r : Compared) : Type 0 where
  pub left_in : r.left ≤ left
  pub right_in : r.right ≤ right
  pub written_in : r.written ≤ room

-- its result, and the buffer, which is kept behind the text
abbrev pub filled_of : List ℕ → Bool → List ℕ → Bool → ℕ → ℕ → List ℕ → Compared × List ℕ
filled_of s lends t rends n d out = let c = compare_of (length out) n d lends rends s t in (shown c, pasted out 0 c.text)

-- all pairs can be counted: those so far, as many as there are bytes, and the tails'
abbrev pub is_counted : ℕ → ℕ → ℕ → ℕ → Bool
is_counted n d left right = is_within (n + d + 1) left right

-- where they can't, nothing is changed
unfoldable pub compared_of : List ℕ → Bool → List ℕ → Bool → ℕ → ℕ → List ℕ → Compared × List ℕ
compared_of s lends t rends n d out =
    when is_counted n d (length s) (length t) then filled_of s lends t rends n d out else (shown (stays n d (Refused PositionRange)), out)
