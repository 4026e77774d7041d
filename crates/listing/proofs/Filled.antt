-- The loop of the listing. What it shares with any loop over calls is cited from `Loop` of crate `stream`; what stands here is about lines and room.
-- Assumes nothing.
use mathlib.Core.Path.{◌≡◌, refl, sym, ap, ap₂, ◌∙◌, subst}
use mathlib.Core.Bool.{true, false, true≢false}
use mathlib.Core.List.{List, [], ◌∷◌, ◌++◌, append-nil}
use Prim.Native.Nat.{ℕ, ◌+◌, ◌-◌, ◌≤◌, ◌<◌}
use native.Mathlib.Nat.{zero-add, add-zero, sub-zero}
use native.Mathlib.Omega.{arith}
use lib.ListN.{length, drop, length-append, length-drop}
use lib.Seq.{drop-drop}
use Rattle.std.specs.Prelude.{None, Some, Result, Ok, Err}
use Rattle.std.specs.Result.{is_ok}
use Rattle.base.specs.Parts.{pasted}
use Rattle.base.proofs.Tests.{by_test}
use Rattle.reading.specs.Answer.{Answer}
use Rattle.reading.specs.Reading.{First}
use Rattle.reading.specs.Call.{call}
use Rattle.reading.specs.History.{answered}
use Rattle.reading.specs.Positions.{behind}
use Rattle.reading.proofs.Positions.{not_before, positioned}
use Rattle.refusals.specs.declared.Refusal.{Refusal}
use Rattle.refusals.specs.declared.Refusal.TheVariants.{BadState, PositionRange}
use Rattle.stream.specs.Places.{held_in}
use Rattle.stream.specs.Step.{is_span, asks_for_more, Moves, Steps}
use Rattle.stream.proofs.Held.{length_held}
use Rattle.stream.proofs.Spans.{span_bounds}
use Rattle.stream.proofs.Replies.{taken_is, held_is}
use Rattle.stream.proofs.Loop as loop
use Rattle.stream.proofs.Loop.{Going}
use Rattle.numbered.proofs.Within.{within}
use Rattle.lines.specs.Lines.{line}
use Rattle.lines.specs.Put.{Puts}
use Rattle.lines.proofs.Puts.{puts_none, puts_then, puts_as, length_puts}
use Rattle.listing.specs.Numbering.{Numbering, lead, past, text_of, room_for, is_countable, moved_on, Reaches}
use Rattle.listing.specs.Listing.{Listing, after, list_of}
use Rattle.listing.specs.Fill.{Turns, Fills, Lists}
use Rattle.listing.specs.declared.Turn.{Turn}
use Rattle.listing.specs.declared.Listed.{Listed}
use Rattle.listing.specs.declared.Status.TheVariants.{More, Full}
use Rattle.listing.proofs.Numberings.{text_append, text_none, past_append, past_none, past_says, room_past, no_line, one_line}
use Rattle.listing.proofs.Listings.{after_after, at_full, at_stop, at_says}

-- the lines of the answers given are written, and what is wanted is these and then the listing from here on. The stream is the bytes that were held at
-- first, so many of them, and then the input
pub record Filling (m : ℕ) (n : Numbering) (wanted : Listing) (stream out₀ input : List ℕ) (first : ℕ) (places : List ℕ) (from to taken at : ℕ) (out : List ℕ) : Type 0 where
  pub given : List Answer
  pub going : Going m stream input places from to taken given
  pub count : length stream ≡ first + length input
  pub room : at ≤ length out₀
  pub out_size : length out ≡ length out₀
  pub puts : Puts out₀ 0 (text_of n given) out at
  pub rest : wanted ≡ after (text_of n given) taken (list_of m (past n given) (held_in places from to) (drop taken input) (length out₀ - at))

after_none : (x : Listing) → x ≡ after [] 0 x
after_none x =
    ap (λ (k : ℕ). record { lines = x.lines; taken = k; held = x.held; asks = x.asks; next = x.next }) (sym (zero-add x.taken))

same_listing : (m : ℕ) {l l' : List ℕ} {k k' : ℕ} {n n' : Numbering} {h h' i i' : List ℕ} {j j' : ℕ} → l ≡ l' → k ≡ k' → n ≡ n' → h ≡ h' → i ≡ i' → j ≡ j'
    → after l k (list_of m n h i j) ≡ after l' k' (list_of m n' h' i' j')
same_listing m o p q r s t = cc

pub begin : (places : List ℕ) (start end : ℕ) (n : Numbering) (input out : List ℕ) → is_span (length places) start end ≡ true
    → (let held = held_in places start end in
    Filling (length places) n (list_of (length places) n held input (length out)) (held ++ input) out input (end - start) places start end 0 0 out)
begin places start end n input out good =
    let bounds = span_bounds (length places) start end good in
    record {
      given = [];
      going = loop.begin places start end input good;
      count = omega (arith, length-append (held_in places start end) input, length_held places start end bounds.1.0 bounds.1.1);
      room = omega arith;
      out_size = refl;
      puts = puts_as (text_none n) puts_none;
      rest = after_none (list_of (length places) n (held_in places start end) input (length out))
          ∙ same_listing (length places) (sym (text_none n)) refl (sym (past_none n)) refl refl (sym (sub-zero (length out)));
    }

fills_as : {m : ℕ} {l l' : Listing} {input out places outAfter : List ℕ} {r : Listed} → l ≡ l' → Fills m l' input out places outAfter r
    → Fills m l input out places outAfter r
fills_as {m} {input = input} {out} {places} {outAfter} {r} e f = subst (λ (x : Listing). Fills m x input out places outAfter r) (sym e) f

module _ {m : ℕ} {n : Numbering} {wanted : Listing} {stream out₀ input : List ℕ} {first : ℕ} {places : List ℕ} {from to taken at : ℕ} {out : List ℕ}
    (f : Filling m n wanted stream out₀ input first places from to taken at out) where
  abbrev held : List ℕ
  held = held_in places from to

  abbrev unread : List ℕ
  unread = drop taken input

  abbrev answer : First
  answer = (call m held unread).answer

  abbrev now : Numbering
  now = past n f.given

  pub is_span_lem : is_span (length places) from to ≡ true
  is_span_lem = subst (λ (k : ℕ). is_span k from to ≡ true) (sym f.going.size) f.going.span

  at_is : at ≡ length (text_of n f.given)
  at_is = f.puts.next ∙ zero-add (length (text_of n f.given))

  -- what the answers dropped is what was held at first and taken, less what is held
  dropped : (p : ℕ) → behind p f.given + (to - from) ≡ p + first + taken
  dropped p =
      let bounds = span_bounds m from to f.going.span in
      omega (
        arith,
        (positioned f.going.history p).counted,
        f.count,
        f.going.inside,
        length-append held unread,
        length_held places from to bounds.1.0 (omega (arith, bounds.1.1, f.going.size)),
        length-drop taken input,
      )

  -- so the number of the next line is known by these, and is one, where all bytes can be numbered
  pub now_is : moved_on n (first + taken - (to - from)) ≡ now
  now_is = by n
    where
      by : (k : Numbering) → moved_on k (first + taken - (to - from)) ≡ past k f.given
      by None = refl
      by (Some p) =
          let same : p + (first + taken - (to - from)) ≡ behind p f.given = omega (arith, dropped p, not_before p f.given) in
          ap Some same

  pub reaches : is_countable n first (length input) ≡ true → Reaches n first taken (to - from)
  reaches = by n
    where
      by : (k : Numbering) → is_countable k first (length input) ≡ true → Reaches k first taken (to - from)
      by None enough = tt
      by (Some p) enough =
          (omega (arith, within p first (length input) enough, f.going.inside), omega (arith, dropped p, not_before p f.given))

  -- no room for the longest line
  pub full : {number : Numbering} → number ≡ now → length out - at < room_for n
      → Fills m wanted input out₀ places out (record { start = from; end = to; numbering = number; taken = taken; written = at; status = Full })
  full number_is short =
      let bounds = span_bounds m from to f.going.span in
      let short₀ : length out₀ - at < room_for now = omega (arith, short, f.out_size, room_past n f.given) in
      fills_as
      (f.rest ∙ ap (after (text_of n f.given) taken) (at_full m now held unread (length out₀ - at) short₀))
      (record {
        ordered = bounds.1.0;
        inside = bounds.1.1;
        held_is = refl;
        taken_is = sym (add-zero taken);
        status_is = refl;
        next_is = number_is;
        taken_in = f.going.inside;
        written_in = f.room;
        written_is = at_is ∙ ap length (sym (append-nil (text_of n f.given)));
        buffer = f.puts.written ∙ ap (pasted out₀ 0) (sym (append-nil (text_of n f.given)));
      })

  module _ {places' out' : List ℕ} {r : Turn} {number : Numbering} (number_is : number ≡ now) (enough : room_for n ≤ length out - at)
      (t : Turns places from to number unread out at places' out' r) where
    steps : Steps m places from to unread places' r.moved
    steps = subst (λ (k : ℕ). Steps k places from to unread places' r.moved) f.going.size t.steps

    moved : Moves m places from to unread places' r.moved
    moved = steps.moves f.going.span

    puts : Puts out at (text_of now (answered answer)) out' r.at
    puts =
        puts_as (ap₂ (λ (k : ℕ) (i : Numbering). text_of i (answered (call k held unread).answer)) (sym f.going.size) (sym number_is)) t.puts

    short : r.at ≤ at + room_for n
    short = omega (arith, t.short, ap room_for number_is, room_past n f.given)

    enough₀ : room_for now ≤ length out₀ - at
    enough₀ = omega (arith, enough, f.out_size, room_past n f.given)

    puts_all : Puts out₀ 0 (text_of n f.given ++ text_of now (answered answer)) out' r.at
    puts_all = puts_then (omega (arith, at_is, f.room)) f.puts puts

    room' : r.at ≤ length out₀
    room' = omega (arith, short, enough, f.out_size)

    pub out_size' : length out' ≡ length out₀
    out_size' = length_puts (omega (arith, puts.next, short, enough)) puts ∙ f.out_size

    -- no more is taken than there is, and each answer leaves fewer bytes held or unread
    pub takes : taken + r.moved.taken ≤ length input
    takes = loop.takes f.going steps

    pub less : asks_for_more r.moved.reply ≡ false
        → (r.moved.end - r.moved.start) + (length input - (taken + r.moved.taken)) < (to - from) + (length input - taken)
    less answers = loop.less f.going steps answers

    -- an answer: its line stands behind the others
    pub again : asks_for_more r.moved.reply ≡ false
        → Filling m n wanted stream out₀ input first places' r.moved.start r.moved.end (taken + r.moved.taken) r.at out'
    again answers =
        loop.answers f.going steps answers
        (λ a e.
        let c = call m held unread in
        let k = lead now ++ line a in
        let one : text_of now (answered answer) ≡ k = one_line now a e in
        let lines : text_of n f.given ++ k ≡ text_of n (f.given ++ answered answer) =
        ap (λ (x : List ℕ). text_of n f.given ++ x) (sym one) ∙ sym (text_append n f.given (answered answer)) in
        let number_on : past now (a ∷ []) ≡ past n (f.given ++ answered answer) =
        sym (past_says now a e) ∙ sym (past_append n f.given (answered answer)) in
        let next : r.at ≡ at + length k = puts.next ∙ ap (λ (x : List ℕ). at + length x) one in
        let left : length out₀ - at - length k ≡ length out₀ - r.at = omega arith in
        let taking : taken + c.taken ≡ taken + r.moved.taken = ap (λ (i : ℕ). taken + i) (sym (taken_is moved)) in
        record {
          given = f.given ++ answered answer;
          going = loop.again f.going steps;
          count = f.count;
          room = room';
          out_size = out_size';
          puts = puts_as (text_append n f.given (answered answer)) puts_all;
          rest = f.rest
              ∙ ap (after (text_of n f.given) taken) (at_says m now held unread (length out₀ - at) enough₀ a e)
              ∙ after_after (text_of n f.given) k taken c.taken (list_of m (past now (a ∷ [])) c.held (drop c.taken unread) (length out₀ - at - length k))
              ∙ same_listing m lines taking number_on (sym (held_is moved)) (drop-drop c.taken taken input ∙ ap (λ (i : ℕ). drop i input) taking) left;
        })

    -- more input is asked for: no line, and the listing is whole
    pub more : asks_for_more r.moved.reply ≡ true
        → Fills m wanted input out₀ places' out'
        (record { start = r.moved.start; end = r.moved.end; numbering = number; taken = taken + r.moved.taken; written = r.at; status = More })
    more asked =
        let e = loop.asks f.going steps asked in
        let lines : text_of n f.given ++ text_of now (answered answer) ≡ text_of n f.given ++ [] =
        ap (λ (x : List ℕ). text_of n f.given ++ x) (no_line now e) in
        fills_as
        (f.rest ∙ ap (after (text_of n f.given) taken) (at_stop m now held unread (length out₀ - at) enough₀ e))
        (record {
          ordered = moved.ordered;
          inside = moved.inside;
          held_is = loop.holds_rest f.going steps asked;
          taken_is = ap (λ (i : ℕ). taken + i) (loop.takes_unread f.going steps asked);
          status_is = refl;
          next_is = number_is;
          taken_in = takes;
          written_in = room';
          written_is = puts_all.next ∙ zero-add (length (text_of n f.given ++ text_of now (answered answer))) ∙ ap length lines;
          buffer = puts_all.written ∙ ap (pasted out₀ 0) lines;
        })

-- what is not a valid state, what can't be numbered, and what is listed
abbrev got : Listed → Result Listed Refusal → Listed
got other (Ok l) = l
got other (Err e) = other

module _ {before : List ℕ} {start end : ℕ} {n : Numbering} {input out : List ℕ} where
  pub refused_list : {r : Result Listed Refusal} → is_span (length before) start end ≡ false → r ≡ Err BadState
      → Lists before start end n input out before out r
  refused_list bad e =
      record {
        refuses = λ _. (e, (refl, refl));
        beyond = λ good _. absurd (true≢false (sym good ∙ bad));
        fills = λ good _. absurd (true≢false (sym good ∙ bad));
      }

  pub beyond_list : {r : Result Listed Refusal} → is_span (length before) start end ≡ true → is_countable n (end - start) (length input) ≡ false
      → r ≡ Err PositionRange → Lists before start end n input out before out r
  beyond_list good short e =
      record {
        refuses = λ bad. absurd (true≢false (sym good ∙ bad));
        beyond = λ _ _. (e, (refl, refl));
        fills = λ _ enough. absurd (true≢false (sym enough ∙ short));
      }

  pub filled_list : {places outAfter : List ℕ} {l : Listed} → is_span (length before) start end ≡ true → is_countable n (end - start) (length input) ≡ true
      → Fills (length before) (list_of (length before) n (held_in before start end) input (length out)) input out places outAfter l
      → Lists before start end n input out places outAfter (Ok l)
  filled_list {l = l} good enough d =
      record {
        refuses = λ bad. absurd (true≢false (sym good ∙ bad));
        beyond = λ _ short. absurd (true≢false (sym enough ∙ short));
        fills = λ _ _. (l, (refl, d));
      }

  -- what is listed was not refused
  pub listed_fills : {places outAfter : List ℕ} {l : Listed} → Lists before start end n input out places outAfter (Ok l)
      → (is_span (length before) start end ≡ true)
      × Fills (length before) (list_of (length before) n (held_in before start end) input (length out)) input out places outAfter l
  listed_fills {places} {outAfter} {l} lists =
      by_test (is_span (length before) start end)
      (λ good.
      by_test (is_countable n (end - start) (length input))
      (λ enough.
      let d = lists.fills good enough in (
        good,
        subst (λ (k : Listed). Fills (length before) (list_of (length before) n (held_in before start end) input (length out)) input out places outAfter k)
            (sym (ap (got l) d.1.0)) d.1.1,
      ))
      (λ short. absurd (true≢false (ap is_ok (lists.beyond good short).0))))
      (λ bad. absurd (true≢false (ap is_ok (lists.refuses bad).0)))
