-- What any loop over calls needs, whatever it makes of the answers: what is known at its head, after each turn, and where it asks for more (RULES 6, 7). A turn
-- is one call on what is unread of the input. What is left to the loop's own proof is what it makes of an answer.
-- Assumes nothing.
use mathlib.Core.Path.{◌≡◌, refl, sym, ap, ◌∙◌, subst}
use mathlib.Core.Bool.{Bool, true, false, true≢false}
use mathlib.Core.List.{List, [], ◌++◌, append-nil}
use Prim.Native.Nat.{ℕ, ◌+◌, ◌-◌, ◌≤◌, ◌<◌}
use native.Mathlib.Omega.{arith}
use lib.ListN.{length, take, drop, length-append, length-drop}
use lib.Seq.{take_all, drop-drop}
use Rattle.reading.specs.Answer as reading
use Rattle.reading.specs.Answer.{drops}
use Rattle.reading.specs.Reading.{First, stop, says, stops, Reading, reading, ◌⊕◌}
use Rattle.reading.specs.Call.{Call, call, dropped_by}
use Rattle.reading.specs.History.{answered, History}
use Rattle.reading.specs.History as history
use Rattle.reading.proofs.First.{stands}
use Rattle.reading.proofs.Reading.{at_stop, at_says, by_reading}
use Rattle.reading.proofs.Call.{answers_first, rest, call_takes, asks_for_more_lem}
use Rattle.reading.proofs.History.{so_now, faithful}
use Rattle.stream.specs.Places.{held_in}
use Rattle.stream.specs.Step.{Said, more, frame, refused, said_of, meaning_of, asks_for_more, is_span, Moves, Steps}
use Rattle.stream.specs.declared.step.Reply.{Reply}
use Rattle.stream.specs.declared.step.Reply.TheVariants.{More, Frame, Refused}
use Rattle.stream.specs.declared.step.Moved.{Moved}
use Rattle.stream.proofs.Held.{length_held}
use Rattle.stream.proofs.Spans.{span_bounds}
use Rattle.stream.proofs.Bounds.{still_span}
use Rattle.stream.proofs.Replies.{said_is, taken_is, held_is}
use Rattle.stream.proofs.Histories.{goes_on}

-- ---- A call asks for more where the reading stops, and nowhere else

pub stops_by : (f : First) → stops f ≡ true → f ≡ stop
unfolding stops
stops_by stop e = refl
stops_by (says a) e = absurd (true≢false (sym e))

unfoldable says_more : Said → Bool
says_more more = true
says_more (frame of_held bytes) = false
says_more (refused row) = false

more_said : (of_held : Bool) (f : First) → says_more (said_of of_held f) ≡ stops f
unfolding says_more said_of stops
more_said h stop = refl
more_said h (says (reading.InvalidSync c)) = refl
more_said h (says (reading.InvalidPacketLength c)) = refl
more_said h (says (reading.InvalidCrc c)) = refl
more_said h (says (reading.Frame c)) = refl

more_meant : (a : Reply) (piece places : List ℕ) → asks_for_more a ≡ says_more (meaning_of a piece places)
unfolding says_more meaning_of
more_meant More piece places = refl
more_meant (Frame p) piece places = refl
more_meant (Refused r) piece places = refl

pub asks_where_stops : {m : ℕ} {before : List ℕ} {start end : ℕ} {input after : List ℕ} {r : Moved} → Moves m before start end input after r
    → asks_for_more r.reply ≡ stops (call m (held_in before start end) input).answer
asks_where_stops {m} {before} {start} {end} {input} {after} {r} moved =
    more_meant r.reply input after ∙ ap says_more (said_is moved) ∙ more_said _ (call m (held_in before start end) input).answer

-- ---- The loop

-- what is known at its head: a state; no more taken than there is; and a history of the stream, in which all but the taken bytes of the input is unread
pub record Going (m : ℕ) (stream input places : List ℕ) (start end taken : ℕ) (given : List reading.Answer) : Type 0 where
  pub size : length places ≡ m
  pub span : is_span m start end ≡ true
  pub inside : taken ≤ length input
  pub history : History m stream (held_in places start end) (drop taken input) given

-- a loop that begins with what is held and an input
pub begin : (places : List ℕ) (start end : ℕ) (input : List ℕ) → is_span (length places) start end ≡ true
    → Going (length places) (held_in places start end ++ input) input places start end 0 []
begin places start end input good =
    record { size = refl; span = good; inside = omega arith; history = history.offer input (history.begin (held_in places start end)) }

-- one that goes on with a stream
pub begin_on : {stream places : List ℕ} {start end : ℕ} {input : List ℕ} {given : List reading.Answer} → is_span (length places) start end ≡ true
    → History (length places) stream (held_in places start end) input given → Going (length places) stream input places start end 0 given
begin_on good h = record { size = refl; span = good; inside = omega arith; history = h }

-- the part of the input that a turn lends on is what is unread
pub unread_is : (input : List ℕ) (taken : ℕ) → take (length input - taken) (drop taken input) ≡ drop taken input
unread_is input taken = take_all (length input - taken) (drop taken input) (omega (arith, length-drop taken input))

-- no string has more answers than bytes
few_answers : (m : ℕ) (s : List ℕ) → length (reading m s).answers ≤ length s
few_answers m =
    by_reading m (λ (s : List ℕ). length (reading m s).answers ≤ length s)
    (λ s e. rw (at_stop m s e) (omega arith))
    (λ s a e few. rw (at_says m s a e) (let h = stands m s a e in omega (arith, few, h.some, h.within, h.inside, length-drop (drops a) s)))

module _ {m : ℕ} {stream input places : List ℕ} {start end taken : ℕ} {given : List reading.Answer}
    (g : Going m stream input places start end taken given) where
  abbrev held : List ℕ
  held = held_in places start end

  abbrev unread : List ℕ
  unread = drop taken input

  -- the answers given so far, and then the reading of the rest, are the reading of the stream
  pub so_far : reading m stream ≡ given ⊕ reading m (held ++ unread)
  so_far = so_now g.history

  -- so no more answers are given than the stream has bytes: a loop that may make more calls than that comes to ask for more
  pub few_given : length given ≤ length stream
  few_given =
      let left = (reading m (held ++ unread)).answers in
      omega (arith, few_answers m stream, ap (λ (x : Reading). length x.answers) so_far, length-append given left)

  module _ {after : List ℕ} {r : Moved} (steps : Steps m places start end unread after r) where
    abbrev c : Call
    c = call m held unread

    moved : Moves m places start end unread after r
    moved = steps.moves g.span

    pub takes : taken + r.taken ≤ length input
    takes = omega (arith, taken_is moved, call_takes m held unread, length-drop taken input, g.inside)

    went : History m stream (held_in after r.start r.end) (drop (taken + r.taken) input) (given ++ answered c.answer)
    went =
        subst (λ (s : List ℕ). History m stream (held_in after r.start r.end) s (given ++ answered c.answer))
        (append-nil (drop r.taken unread) ∙ drop-drop r.taken taken input)
        (goes_on unread [] moved (subst (λ (s : List ℕ). History m stream held s given) (sym (append-nil unread)) g.history))

    -- after a turn, whatever it answered
    pub again : Going m stream input after r.start r.end (taken + r.taken) (given ++ answered c.answer)
    again = record { size = steps.same ∙ g.size; span = still_span steps g.span; inside = takes; history = went }

    -- it asked for more: all answers are given, everything is taken, and the tail is held
    module _ (more-asked : asks_for_more r.reply ≡ true) where
      pub asks : c.answer ≡ stop
      asks = stops_by c.answer (sym (asks_where_stops moved) ∙ more-asked)

      whole : c ≡ record { answer = stop; taken = length unread; held = held ++ unread }
      whole = asks_for_more_lem m held unread (answers_first m held unread ∙ asks)

      pub takes_unread : r.taken ≡ length unread
      takes_unread = taken_is moved ∙ ap (λ (x : Call). x.taken) whole

      pub takes_all : taken + r.taken ≡ length input
      takes_all = omega (arith, takes_unread, length-drop taken input, g.inside)

      pub holds_rest : held_in after r.start r.end ≡ held ++ unread
      holds_rest = held_is moved ∙ ap (λ (x : Call). x.held) whole

      pub all_given : reading m stream ≡ record { answers = given; tail = held_in after r.start r.end }
      all_given = (faithful g.history).all asks ∙ ap (λ (s : List ℕ). record { answers = given; tail = s }) (sym (held_is moved))

    -- it answered: the answer, and fewer bytes held or unread
    module _ (not-asked : asks_for_more r.reply ≡ false) where
      answers_by : {G : Type 0} (f : First) → c.answer ≡ f → stops f ≡ false → ((a : reading.Answer) → c.answer ≡ says a → G) → G
      unfolding stops
      answers_by stop e none go = absurd (true≢false none)
      answers_by (says a) e none go = go a e

      pub answers : {G : Type 0} → ((a : reading.Answer) → c.answer ≡ says a → G) → G
      answers go = answers_by c.answer refl (sym (asks_where_stops moved) ∙ not-asked) go

      fewer : (a : reading.Answer) → c.answer ≡ says a → length (c.held ++ drop c.taken unread) < length (held ++ unread)
      unfolding dropped_by
      fewer a e =
          let s = stands m (held ++ unread) a (answers_first m held unread ∙ e) in
          let left = rest m held unread ∙ ap (λ (f : First). drop (dropped_by f) (held ++ unread)) e in
          omega (arith, ap length left, length-drop (drops a) (held ++ unread))

      -- the measure of any loop over calls
      pub less : (r.end - r.start) + (length input - (taken + r.taken)) < (end - start) + (length input - taken)
      less =
          answers
          (λ a e.
          let was = span_bounds m start end g.span in
          let is = moved in
          let was_held : length held ≡ end - start = length_held places start end was.1.0 (omega (arith, was.1.1, g.size)) in
          let now_held : length c.held ≡ r.end - r.start =
          ap length (sym (held_is moved)) ∙ length_held after r.start r.end is.ordered (omega (arith, is.inside, steps.same, g.size)) in
          omega (
            arith,
            now_held,
            was_held,
            fewer a e,
            length-append c.held (drop c.taken unread),
            length-append held unread,
            length-drop c.taken unread,
            length-drop taken input,
            call_takes m held unread,
            taken_is moved,
          ))
