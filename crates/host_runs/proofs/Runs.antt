-- Demand 3 for a host (RULES 7): every run of entries is a history of the reading. So what its calls said is what the reading answers first, whatever comes
-- behind; and where a call on all that is unread asks for more, it is all that the reading answers, the tail is held, and that is fewer bytes than the limit.
-- Assumes nothing.
use mathlib.Core.Path.{◌≡◌, refl, sym, ap, ap₂, ◌∙◌, subst}
use mathlib.Core.Bool.{Bool, true}
use mathlib.Core.List.{List, [], ◌∷◌, ◌++◌, map, map-append}
use Prim.Native.Nat.{ℕ, ◌+◌, ◌≤◌, ◌<◌}
use native.Mathlib.Omega.{arith}
use borrow.Author.Tests.{ltb-true}
use lib.Dec.{ltb, lit≤}
use lib.ListN.{length, take, drop}
use Rattle.base.specs.Choice.{when◌then◌else◌}
use Rattle.base.proofs.Tests.{by_test}
use Rattle.refusals.specs.Row.{row_of}
use Rattle.refusals.specs.declared.Refusal.TheVariants.{BadState}
use Rattle.reading.specs.Answer as reading
use Rattle.reading.specs.Answer.{row}
use Rattle.reading.specs.Reading.{limit, Reading, reading, First, stop, says, stops}
use Rattle.reading.specs.Call.{call}
use Rattle.reading.specs.History.{answered, History}
use Rattle.reading.specs.History as history
use Rattle.reading.specs.Positions.{greatest, behind, numbered, is_within}
use Rattle.reading.proofs.History.{faithful}
use Rattle.reading.proofs.Positions.{behind_append, numbered_append, positioned, never_beyond}
use Rattle.stream.specs.Step.{Moves}
use Rattle.stream.specs.Rows.{rows_of}
use Rattle.stream.proofs.Replies.{rows_on, asks, held_is}
use Rattle.stream.proofs.Histories.{goes_on}
use Rattle.stream.proofs.Loop.{asks_where_stops}
use Rattle.numbered.proofs.Within.{within}
use Rattle.saved.specs.Form as forms
use Rattle.saved.specs.Form.{saved_form, is_form, held_of}
use Rattle.saved.proofs.Marked.{length_saved}
use Rattle.host_state.specs.State.{size, start_in, end_in, places_in, position_in, held_by, is_state}
use Rattle.host_state.specs.Step.{can_number, advanced_in}
use Rattle.host_state.specs.Saving.{reset_state, state_image, restore_state}
use Rattle.host_state.proofs.States.{has_size_lem}
use Rattle.host_state.proofs.Laws.{Holds, still_state, moves, goes_to, counted, reset_holds_nothing, image_by_held, restored_form, carried}
use Rattle.host_answer.specs.Answer.{answers}
use Rattle.host_answer.specs.Reply as replies
use Rattle.host_answer.specs.Reply.{Calls}
use Rattle.host_answer.proofs.Fits.{Short}
use Rattle.host_answer.proofs.Slices.{any_slice}
use Rattle.host_runs.specs.Answered.{number_in, taken_in, len_in, said_in, told_in, said_by}
use Rattle.host_runs.specs.Run.{HostRun, reset, restore, offer, next, resume}
use Rattle.host_runs.proofs.Answered.{said_is, taken_is, asks_is, told_is, refused_number, wrote_is}

-- where an answer began
abbrev pub first : ℕ × reading.Answer → ℕ
first x = x.0

-- what a host is given of some answers
abbrev pub said_of : List reading.Answer → List (List ℕ)
said_of given = map said_by (map row given)

-- the history of a run, and where the state stands in it
pub record Followed (origin : ℕ) (stream state unread : List ℕ) (said : List (List ℕ)) (told : List ℕ) : Type 0 where
  pub valid : is_state state ≡ true
  pub given : List reading.Answer
  pub history : History limit stream (held_by state) unread given
  pub says : said_of given ≡ said
  pub stands : position_in state ≡ behind origin given
  pub tells : map first (numbered origin given) ≡ told

held_as : {stream held held' unread : List ℕ} {given : List reading.Answer} → held' ≡ held → History limit stream held unread given
    → History limit stream held' unread given
held_as {stream} {unread = unread} {given} e h = subst (λ (k : List ℕ). History limit stream k unread given) (sym e) h

-- the bytes that an entry leaves
left : (x : List ℕ × List ℕ) {r : ℕ} {after : List ℕ} → (r, after) ≡ answers x → after ≡ x.1
left x e = ap (λ (y : ℕ × List ℕ). y.1) e

holds_as : {s t held : List ℕ} {position : ℕ} → s ≡ t → Holds t held position → Holds s held position
holds_as {held = held} {position} e h = subst (λ (x : List ℕ). Holds x held position) (sym e) h

-- a restore that succeeded was of an accepted form
accepted_form : (any form : List ℕ) {r : ℕ} {state : List ℕ} → length any ≡ size → (r, state) ≡ answers (restore_state form any) → number_in r ≡ 0
    → Holds state (held_of limit form) (forms.position_in form)
unfolding restore_state
accepted_form any form long e zero =
    let fits = has_size_lem any long in
    by_test (is_form limit form)
    (λ good. holds_as (left (restore_state form any) e) (restored_form any fits form good).1)
    (λ bad. let x : (restore_state form any).0 ≡ row_of BadState = simp (fits, bad) in absurd (refused_number BadState e x zero))

-- no saved form is longer than a byte can say
short_image : (state : List ℕ) → is_state state ≡ true → Short (state_image state)
short_image state good =
    rw (image_by_held state good)
    (by_test (ltb (length (held_by state)) limit)
    (λ t.
    by_test (is_within (position_in state) (length (held_by state)) 0)
    (λ w. simp (t, w) (short_form (position_in state) (held_by state) (ltb-true (length (held_by state)) limit t) (within (position_in state) (length (held_by state)) 0 w)))
    (λ w. simp (t, w) tt))
    (λ t. simp t tt))
  where
    short_form : (p : ℕ) (held : List ℕ) → length held < limit → p + length held + 0 ≤ greatest → length (saved_form p held) < 256
    short_form p held few fits = omega (arith, length_saved p held (omega arith) (omega arith))

-- one answer more, and where it began
numbered_on : (origin : ℕ) (given : List reading.Answer) (f : First) {p : ℕ} → p ≡ behind origin given
    → map first (numbered origin (given ++ answered f)) ≡ map first (numbered origin given) ++ (when stops f then [] else p ∷ [])
unfolding answered stops
numbered_on origin given f {p} e =
    ap (map first) (numbered_append origin given (answered f))
    ∙ map-append first (numbered origin given) (numbered (behind origin given) (answered f))
    ∙ ap (λ (l : List ℕ). map first (numbered origin given) ++ l) (by f)
  where
    by : (f : First) → map first (numbered (behind origin given) (answered f)) ≡ (when stops f then [] else p ∷ [])
    by stop = refl
    by (says a) = ap (λ (q : ℕ). q ∷ []) (sym e)

pub followed : {origin : ℕ} {stream state unread : List ℕ} {said : List (List ℕ)} {told : List ℕ} → HostRun origin stream state unread said told
    → Followed origin stream state unread said told
followed (reset any {r} {state} long e) =
    let h = holds_as (left (reset_state any) e) (reset_holds_nothing any (has_size_lem any long)) in
    record { valid = h.valid; given = []; history = held_as h.holds (history.begin []); says = refl; stands = h.stands; tells = refl }
followed (restore any form long e zero) =
    let h = accepted_form any form long e zero in
    record { valid = h.valid; given = []; history = held_as h.holds (history.begin (held_of limit form)); says = refl; stands = h.stands; tells = refl }
followed (offer piece run) =
    let f = followed run in
    record { valid = f.valid; given = f.given; history = history.offer piece f.history; says = f.says; stands = f.stands; tells = f.tells }
followed (next {origin} {stream} {state} {said} {told} input later place rest {after} {slice} {r} run can c) =
    let f = followed run in
    let moved = moves c.steps f.valid can in
    let answer = (call limit (held_by state) input).answer in
    let more = answered answer in
    record {
      valid = still_state c.steps f.valid;
      given = f.given ++ more;
      history = subst (λ (n : ℕ). History limit stream (held_by after) (drop n input ++ later) (f.given ++ more)) (sym (taken_is c))
          (goes_on input later moved f.history);
      says = ap (map said_by) (rows_on moved f.given)
          ∙ map-append said_by (map row f.given) (rows_of c.answered.reply input (places_in after))
          ∙ ap₂ (λ (x y : List (List ℕ)). x ++ y) f.says (sym (said_is c));
      stands = goes_to c.steps f.valid can ∙ ap (λ (q : ℕ). behind q more) f.stands ∙ sym (behind_append origin f.given more);
      tells = numbered_on origin f.given answer f.stands
          ∙ ap₂ (λ (x y : List ℕ). x ++ y) f.tells
          (ap (λ (b : Bool). when b then [] else position_in state ∷ []) (sym (asks_where_stops moved)) ∙ sym (told_is c f.valid can));
    }
followed (resume {origin} {stream} {state} out any {r} {s} {written} {after} run saves zero long e) =
    let f = followed run in
    let wrote = wrote_is (state_image state) out (short_image state f.valid) saves zero in
    let h = holds_as (left (restore_state (take (len_in r) written) any) e) (carried any (has_size_lem any long) state out wrote) in
    record { valid = h.valid; given = f.given; history = held_as h.holds f.history; says = f.says; stands = h.stands ∙ f.stands; tells = f.tells }

-- a call with any slice, also one without a place, is a step of a run too: its answer and the state are those of a call with a place, which would be told
-- where the answer began
pub next_any : {origin : ℕ} {stream state : List ℕ} {said : List (List ℕ)} {told : List ℕ} (input later : List ℕ) {slot after slice : List ℕ} {r : ℕ}
    → HostRun origin stream state (input ++ later) said told → can_number state input ≡ true → (c : Calls state input slot after slice r)
    → HostRun origin stream after (drop (taken_in r) input ++ later) (said ++ said_in r input after)
    (told ++ told_in r (replies.told c.answered.reply c.answered.position (0 ∷ [])))
next_any input later run can c = next input later 0 [] run can (any_slice c (0 ∷ []))

module _ {origin : ℕ} {stream state unread : List ℕ} {said : List (List ℕ)} {told : List ℕ} (run : HostRun origin stream state unread said told) where
  -- what the calls said is what the reading answers first, whatever comes behind; what it answers further is of what is held and unread
  pub first_answers : (more : List ℕ)
      → said_of (reading limit (stream ++ more)).answers ≡ said ++ said_of (reading limit (held_by state ++ unread ++ more)).answers
  first_answers more =
      let f = followed run in
      let rest = (reading limit (held_by state ++ unread ++ more)).answers in
      ap (λ (r : Reading). said_of r.answers) ((faithful f.history).so_far more)
      ∙ ap (map said_by) (map-append row f.given rest)
      ∙ map-append said_by (map row f.given) (map row rest)
      ∙ ap (λ (x : List (List ℕ)). x ++ said_of rest) f.says

  -- and the positions that it was told are those where the reading has these answers; those to come begin where the state stands
  pub first_positions : (more : List ℕ)
      → map first (numbered origin (reading limit (stream ++ more)).answers)
      ≡ told ++ map first (numbered (position_in state) (reading limit (held_by state ++ unread ++ more)).answers)
  first_positions more =
      let f = followed run in
      let rest = (reading limit (held_by state ++ unread ++ more)).answers in
      ap (map first) ((positioned f.history origin).so_far more)
      ∙ map-append first (numbered origin f.given) (numbered (behind origin f.given) rest)
      ∙ ap₂ (λ (x : List ℕ) (q : ℕ). x ++ map first (numbered q rest)) f.tells (sym f.stands)

  -- a stream whose bytes can all be numbered is never refused with 12
  pub never_refused : (input later : List ℕ) → unread ≡ input ++ later → origin + length stream ≤ greatest → can_number state input ≡ true
  unfolding can_number
  never_refused input later e few =
      let f = followed run in
      rw (f.stands, ← counted state f.valid) (never_beyond f.history origin input later e few)

  -- a call on all that is unread asks for more (255): that is all the reading answers, and the tail is held, at most 63 bytes
  module _ {slot slice after : List ℕ} {r : ℕ} (can : can_number state unread ≡ true) (c : Calls state unread slot after slice r) (more : number_in r ≡ 255) where
    f : Followed origin stream state unread said told
    f = followed run

    moved : Moves limit (places_in state) (start_in state) (end_in state) unread (places_in after) (advanced_in after c.answered).moved
    moved = moves c.steps f.valid can

    stops_here : (call limit (held_by state) unread).answer ≡ stop
    stops_here = asks moved (asks_is c more)

    all : reading limit stream ≡ record { answers = f.given; tail = (call limit (held_by state) unread).held }
    all = (faithful f.history).all stops_here

    pub all_answers : said_of (reading limit stream).answers ≡ said
    all_answers = ap (λ (r : Reading). said_of r.answers) all ∙ f.says

    pub all_positions : map first (numbered origin (reading limit stream).answers) ≡ told
    all_positions = ap (map first) ((positioned f.history origin).all stops_here).0 ∙ f.tells

    unmoved : behind (position_in state) (answered stop) ≡ position_in state
    unfolding answered
    unmoved = refl

    -- the state stands where the tail begins
    pub stands_at_the_tail : behind origin (reading limit stream).answers ≡ position_in after
    stands_at_the_tail =
        ((positioned f.history origin).all stops_here).1
        ∙ sym f.stands
        ∙ sym (goes_to c.steps f.valid can ∙ ap (λ (x : First). behind (position_in state) (answered x)) stops_here ∙ unmoved)

    pub holds_the_tail : (reading limit stream).tail ≡ held_by after
    holds_the_tail = ap (λ (r : Reading). r.tail) all ∙ sym (held_is moved)

    pub at_most_63 : length (held_by after) ≤ 63
    at_most_63 = rw (held_is moved) ((faithful f.history).short (lit≤ tt) stops_here)
