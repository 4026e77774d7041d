-- What a parser holds: nothing when it is new or reset, after a call a state again, and after a call that asks for more, less than a frame.
-- Assumes nothing.
use mathlib.Core.Path.{◌≡◌, refl, sym}
use mathlib.Core.Bool.{true}
use mathlib.Core.List.{List, []}
use Prim.Native.Nat.{ℕ, ◌-◌, ◌≤◌}
use lib.ListN.{length}
use Rattle.reading.specs.Reading.{limit}
use Rattle.reading.specs.History.{begin, offer}
use Rattle.reading.proofs.History.{faithful}
use Rattle.stream.specs.Step.{Moves}
use Rattle.stream.specs.declared.step.Reply.TheVariants.{More}
use Rattle.stream.proofs.Spans.{span_bounds}
use Rattle.stream.proofs.Held.{length_held}
use Rattle.stream.proofs.Bounds.{still_span}
use Rattle.stream.proofs.Replies.{asks, held_is}
use Rattle.numbered.specs.declared.Answered.{Answered}
use Rattle.numbered.proofs.Steps.{as_steps, taken_at_most}
use Rattle.parser.specs.declared.CrsfParser.{CrsfParser}
use Rattle.parser.specs.declared.Stepped.{Stepped}
use Rattle.parser.specs.Parser.{empty, reset_of, held_by, held_count, is_state, can_take, stepped, advanced_to, Nexts}

pub empty_holds : held_by empty ≡ []
unfolding empty
empty_holds = refl

module _ (p : CrsfParser) where
  pub reset_holds : held_by (reset_of p) ≡ []
  unfolding reset_of
  reset_holds = refl

  -- the count is that of the held bytes
  pub held_size : is_state p ≡ true → length p.buffer ≡ limit → p.end - p.start ≡ length (held_by p)
  held_size good full =
      let b = span_bounds limit p.start p.end good in
      sym (length_held p.buffer p.start p.end b.1.0 (rw full b.1.1))

  pub counted : is_state p ≡ true → length p.buffer ≡ limit → held_count p ≡ length (held_by p)
  unfolding held_count
  counted good full = held_size good full

-- one call, by value or of a lent parser, that is not refused with 8 or 12: the promise is the same
module _ {p : CrsfParser} {input : List ℕ} {r : Stepped} (good : is_state p ≡ true) (fits : can_take p input ≡ true) (n : Nexts p input r) where
  pub moves_on : Moves limit p.buffer p.start p.end input r.parser.buffer (advanced_to r).moved
  moves_on = n.steps.moves good fits

  -- a call on a state leaves a state
  pub still_state : is_state r.parser ≡ true
  still_state = still_span (as_steps good fits n.steps) good

  -- where it asks for more, fewer bytes are held than the limit: at most 63
  pub short : r.answered.reply ≡ More → length (held_by r.parser) ≤ limit - 1
  short e = rw (held_is moves_on) ((faithful (offer input (begin (held_by p)))).short (span_bounds limit p.start p.end good).0 (asks moves_on e))

-- the same of a lent parser, which is q after the call
pub lent_short : {p q : CrsfParser} {input : List ℕ} {a : Answered} → is_state p ≡ true → can_take p input ≡ true → Nexts p input (stepped q a)
    → a.reply ≡ More → length (held_by q) ≤ limit - 1
lent_short = short

-- a call takes no more than there is, whatever the state
pub takes_within : {p : CrsfParser} {input : List ℕ} {r : Stepped} → Nexts p input r → r.answered.taken ≤ length input
takes_within n = (taken_at_most n.steps).0
