-- However the input is cut and however small the buffers are, the bytes written are the lines of the reading's answers so far, with their positions or
-- without, and once more input is asked for they are the lines of all of them.
-- Assumes nothing.
use mathlib.Core.Path.{◌≡◌, refl, sym, ap, ap₂, ◌∙◌, subst}
use mathlib.Core.Bool.{true, true≢false}
use mathlib.Core.List.{List, [], ◌∷◌, ◌++◌, append_assoc, append-nil, nil≢cons}
use Prim.Native.Nat.{ℕ, ◌-◌, ◌≤◌, ◌<◌}
use native.Mathlib.Omega.{arith}
use lib.Dec.{ltb}
use lib.ListN.{length, take, drop}
use lib.Seq.{drop-drop, drop-length, take_at}
use Rattle.std.specs.Prelude.{None, Some, Ok}
use Rattle.base.proofs.Parts.{pasted_front}
use Rattle.base.proofs.Tests.{by_test}
use Rattle.reading.specs.Answer.{Answer}
use Rattle.reading.specs.Reading.{First, stop, says, first, Reading, reading}
use Rattle.reading.specs.Call.{Call, call}
use Rattle.reading.specs.History.{answered, History, begin, offer, ask}
use Rattle.reading.proofs.First.{stops_short}
use Rattle.reading.proofs.Reading as read
use Rattle.reading.proofs.Call.{answers_first, asks_for_more_lem, holds_all, held_short}
use Rattle.reading.specs.Positions.{Positioned}
use Rattle.reading.proofs.History.{faithful}
use Rattle.reading.proofs.Positions.{positioned, never_beyond}
use Rattle.numbered.proofs.Within.{within}
use Rattle.stream.specs.Places.{held_in}
use Rattle.stream.proofs.Held.{length_held}
use Rattle.stream.proofs.Spans.{span_bounds}
use Rattle.lines.specs.Lines.{line}
use Rattle.listing.specs.Numbering.{Numbering, lead, past, text_of, last_line, room_for, is_countable}
use Rattle.listing.specs.Listing.{Listing, full, asking, list_from, list_of}
use Rattle.listing.specs.Fill.{Fills, Lists}
use Rattle.listing.specs.Whole.{whole_text}
use Rattle.listing.specs.declared.Listed.{Listed}
use Rattle.listing.proofs.Numberings.{text_append, text_none, past_append, past_none, past_stop, past_says, no_line, one_line}
use Rattle.listing.proofs.Filled.{listed_fills}
use Rattle.listing.proofs.Listings.{left_is}

-- of the stream so far `held` is held, `unread` is still to be taken, the text is the lines of the answers given, by a numbering that began with n, and
-- the next line has the number now
pub record Text (m : ℕ) (n : Numbering) (stream held unread : List ℕ) (now : Numbering) (text : List ℕ) : Type 0 where
  pub given : List Answer
  pub history : History m stream held unread given
  pub lines : text ≡ text_of n given
  pub number : now ≡ past n given

text_as : {m : ℕ} {n : Numbering} {stream held held' unread unread' : List ℕ} {now now' : Numbering} {text text' : List ℕ} → held ≡ held' → unread ≡ unread'
    → now ≡ now' → text ≡ text' → Text m n stream held unread now text → Text m n stream held' unread' now' text'
text_as {m} {n} {stream} {held} {held'} {unread} {unread'} p q s r t =
    record {
      given = t.given;
      history = subst (λ (x : List ℕ). History m stream held' x t.given) q
          (subst (λ (x : List ℕ). History m stream x unread t.given) p t.history);
      lines = sym r ∙ t.lines;
      number = sym s ∙ t.number;
    }

-- after a reset or a restore nothing is written, and a piece that is offered writes nothing
pub text_begin : (m : ℕ) (n : Numbering) (saved : List ℕ) → Text m n saved saved [] n []
text_begin m n saved = record { given = []; history = begin saved; lines = sym (text_none n); number = sym (past_none n) }

pub text_offer : {m : ℕ} {n : Numbering} {stream held unread : List ℕ} {now : Numbering} {text : List ℕ} (piece : List ℕ)
    → Text m n stream held unread now text → Text m n (stream ++ piece) held (unread ++ piece) now text
text_offer piece t = record { given = t.given; history = offer piece t.history; lines = t.lines; number = t.number }

-- one call
text_call : {m : ℕ} {n : Numbering} {stream held : List ℕ} {now : Numbering} {text : List ℕ} (input : List ℕ) → Text m n stream held input now text
    → (let c = call m held input in
    Text m n stream c.held (drop c.taken input) (past now (answered c.answer)) (text ++ text_of now (answered c.answer)))
text_call {m} {n} {stream} {held} {now} {text} input t =
    let f = (call m held input).answer in
    text_as refl (append-nil (drop (call m held input).taken input)) refl refl
    (record {
      given = t.given ++ answered f;
      history = ask input [] (subst (λ (s : List ℕ). History m stream held s t.given) (sym (append-nil input)) t.history);
      lines = ap₂ (λ (l : List ℕ) (k : Numbering). l ++ text_of k (answered f)) t.lines t.number ∙ sym (text_append n t.given (answered f));
      number = ap (λ (k : Numbering). past k (answered f)) t.number ∙ sym (past_append n t.given (answered f));
    })

-- what stands first where no answer is to come
none_stops : (m : ℕ) (s : List ℕ) → (reading m s).answers ≡ [] → first m s ≡ stop
none_stops m s e = by (first m s) refl
  where
    by : (f : First) → first m s ≡ f → first m s ≡ stop
    by stop q = q
    by (says a) q = absurd (nil≢cons (sym e ∙ ap (λ (r : Reading). r.answers) (read.at_says m s a q)))

-- what a listing of a text's unread input does: the text goes on by its lines; where it asks for more, all is taken, and what is held stops; and it
-- leaves fewer bytes held than the limit, where fewer were held before
pub record After (m : ℕ) (n : Numbering) (stream held input text : List ℕ) (l : Listing) : Type 0 where
  pub text_on : Text m n stream l.held (drop l.taken input) l.next (text ++ l.lines)
  pub ends : l.asks ≡ true → (drop l.taken input ≡ []) × (first m l.held ≡ stop)
  pub few : 4 ≤ m → length held < m → length l.held < m

module _ {m : ℕ} {n : Numbering} {stream : List ℕ} where
  after_full : {held : List ℕ} {now : Numbering} {text : List ℕ} (input : List ℕ) → Text m n stream held input now text
      → After m n stream held input text (full now held)
  after_full {text = text} input t =
      record { text_on = text_as refl refl refl (sym (append-nil text)) t; ends = λ asked. absurd (true≢false (sym asked)); few = λ _ h. h }

  after_asking : {held : List ℕ} {now : Numbering} {text : List ℕ} (input : List ℕ) → first m (held ++ input) ≡ stop → Text m n stream held input now text
      → After m n stream held input text (asking now held input)
  after_asking {held} {now} {text} input e t =
      let c = asks_for_more_lem m held input e in
      let stops = sym (answers_first m held input) ∙ e in
      record {
        text_on = text_as (ap (λ (x : Call). x.held) c)
            (ap (λ (x : Call). drop x.taken input) c)
            (past_stop now stops)
            (ap (λ (l : List ℕ). text ++ l) (no_line now stops))
            (text_call input t);
        ends = λ _. (drop-length input, e);
        few = λ four _. stops_short m (held ++ input) four e;
      }

  after_from : (answers : List Answer) {held : List ℕ} {now : Numbering} {text : List ℕ} (input : List ℕ) (room : ℕ)
      → (reading m (held ++ input)).answers ≡ answers → Text m n stream held input now text
      → After m n stream held input text (list_from m now answers held input room)
  unfolding list_from
  after_from [] {held} {now} {text} input room e t =
      by_test (ltb room (room_for now)) (λ q. simp q (after_full input t)) (λ q. simp q (after_asking input (none_stops m (held ++ input) e) t))
  after_from (a ∷ more) {held} {now} {text} input room e t =
      let h = read.heads m (held ++ input) a more e in
      let c = call m held input in
      let k = lead now ++ line a in
      let says_a : c.answer ≡ says a = sym (answers_first m held input) ∙ h.0 in
      let next : Text m n stream c.held (drop c.taken input) (past now (a ∷ [])) (text ++ k) =
      text_as refl refl (past_says now a says_a) (ap (λ (l : List ℕ). text ++ l) (one_line now a says_a)) (text_call input t) in
      let left : (reading m (c.held ++ drop c.taken input)).answers ≡ more = ap (λ (l : List ℕ). (reading m l).answers) (left_is m held input a says_a) ∙ h.1 in
      let l : Listing = list_from m (past now (a ∷ [])) more c.held (drop c.taken input) (room - length k) in
      let on = after_from more (drop c.taken input) (room - length k) left next in
      let past-it = drop-drop l.taken c.taken input in
      by_test (ltb room (room_for now)) (λ q. simp q (after_full input t))
      (λ q.
      simp q
      (record {
        text_on = text_as refl past-it refl (append_assoc text k l.lines) on.text_on;
        ends = λ asked. (sym past-it ∙ (on.ends asked).0, (on.ends asked).1);
        few = λ four h. on.few four (omega (arith, held_short m held input four (omega arith)));
      }))

  pub after_listed : {held : List ℕ} {now : Numbering} {text : List ℕ} (input : List ℕ) (room : ℕ) → Text m n stream held input now text
      → After m n stream held input text (list_of m now held input room)
  unfolding list_of
  after_listed {held} input room t = after_from (reading m (held ++ input)).answers input room refl t

-- so where more is asked for the text is the lines of all answers, and what is held is the tail: with the last line, the whole text of the stream
module _ {m : ℕ} {n : Numbering} {stream held : List ℕ} {now : Numbering} {text : List ℕ} (unread : List ℕ) (room : ℕ)
    (t : Text m n stream held unread now text) (asks : (list_of m now held unread room).asks ≡ true) where
  abbrev l : Listing
  l = list_of m now held unread room

  ends : (drop l.taken unread ≡ []) × (first m l.held ≡ stop)
  ends = (after_listed unread room t).ends asks

  pub last : Text m n stream l.held [] l.next (text ++ l.lines)
  last = text_as refl ends.0 refl refl (after_listed unread room t).text_on

  stops : (call m l.held []).answer ≡ stop
  stops = sym (answers_first m l.held []) ∙ ap (first m) (append-nil l.held) ∙ ends.1

  pub whole : reading m stream ≡ record { answers = last.given; tail = l.held }
  whole =
      (faithful last.history).all stops
      ∙ ap (λ (x : List ℕ). record { answers = last.given; tail = x }) (holds_all m l.held [] stops ∙ append-nil l.held)

  pub all_listed : text ++ l.lines ++ last_line l.next (length l.held) ≡ whole_text n m stream
  all_listed =
      ap₂ (λ (x : List ℕ) (k : Numbering). x ++ last_line k (length l.held)) last.lines last.number
      ∙ ap (λ (r : Reading). text_of n r.answers ++ last_line (past n r.answers) (length r.tail)) (sym whole)

-- and before that, whatever is still to come: the text begins the lines of the stream's answers
pub so_far : {m : ℕ} {n : Numbering} {stream held unread : List ℕ} {now : Numbering} {text : List ℕ} → Text m n stream held unread now text → (more : List ℕ)
    → text_of n (reading m (stream ++ more)).answers ≡ text ++ text_of now (reading m (held ++ unread ++ more)).answers
so_far {m} {n} {held = held} {unread} t more =
    let rest = (reading m (held ++ unread ++ more)).answers in
    ap (λ (r : Reading). text_of n r.answers) ((faithful t.history).so_far more)
    ∙ text_append n t.given rest
    ∙ ap₂ (λ (x : List ℕ) (k : Numbering). x ++ text_of k rest) (sym t.lines) (sym t.number)

-- ---- The positions of a text are the reading's, and where they all can be numbered no call is refused

pub positions : {m p : ℕ} {stream held unread : List ℕ} {now : Numbering} {text : List ℕ} (t : Text m (Some p) stream held unread now text)
    → Positioned m p stream held unread t.given
positions {p = p} t = positioned t.history p

pub never_refused : {m : ℕ} {n : Numbering} {stream held : List ℕ} {now : Numbering} {text : List ℕ} (input : List ℕ) → Text m n stream held input now text
    → is_countable n 0 (length stream) ≡ true → is_countable now (length held) (length input) ≡ true
never_refused {m} {n} {stream} {held} {now} input t fits = rw t.number (by n fits)
  where
    by : (k : Numbering) → is_countable k 0 (length stream) ≡ true → is_countable (past k t.given) (length held) (length input) ≡ true
    by None fits = refl
    by (Some p) fits =
        never_beyond t.history p input [] (sym (append-nil input))
        (omega (arith, within p 0 (length stream) fits))

-- ---- the code: what it wrote is what the promise says, so each call of it carries a text on

module _ {m : ℕ} {l : Listing} {input₀ out places outAfter : List ℕ} {r : Listed} (d : Fills m l input₀ out places outAfter r) where
  pub wrote : take r.written outAfter ≡ l.lines
  wrote =
      ap₂ take d.written_is (d.buffer ∙ pasted_front out l.lines) ∙ take_at l.lines (drop (length l.lines) out) (length l.lines) refl

  pub text_code : {n : Numbering} {stream held : List ℕ} {now : Numbering} {text : List ℕ} (input : List ℕ) (room : ℕ) → l ≡ list_of m now held input room
      → Text m n stream held input now text
      → Text m n stream (held_in places r.start r.end) (drop r.taken input) r.numbering (text ++ take r.written outAfter)
  text_code {n} {stream} {held} {text = text} input room e t =
      text_as (sym d.held_is) (ap (λ (k : ℕ). drop k input) (sym d.taken_is)) (sym d.next_is) (ap (λ (x : List ℕ). text ++ x) (sym wrote))
      (subst (After m n stream held input text) (sym e) (after_listed input room t)).text_on

pub still_few : {before : List ℕ} {start end : ℕ} {n : Numbering} {input out places outAfter : List ℕ} {l : Listed} → length places ≡ length before
    → start ≤ end → end ≤ length before → end - start < length before → Lists before start end n input out places outAfter (Ok l)
    → l.end - l.start < length before
still_few {before} {start} {end} {n} {input} {out} {places} {l = l} same low high few lists =
    let m = length before in
    let d = listed_fills lists in
    let held = length_held before start end low high in
    let left = length_held places l.start l.end d.1.ordered (omega (arith, d.1.inside)) in
    let on = after_listed input (length out) (text_offer input (text_begin m n (held_in before start end))) in
    omega (arith, ap length d.1.held_is, on.few (span_bounds m start end d.0).0 (omega arith))
