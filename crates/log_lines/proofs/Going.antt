-- The loop over the calls in a part. Each entry takes one byte at least, so that there is room for its line.
-- Assumes nothing.
use Rattle.std.specs.Prelude.{Err}
use mathlib.Core.Path.{◌≡◌, refl, sym, ap, ◌∙◌}
use mathlib.Core.Bool.{true, false, true≢false}
use mathlib.Core.List.{List, [], ◌∷◌, ◌++◌, append-nil}
use Prim.Native.Nat.{ℕ, ◌+◌, ◌*◌, ◌≤◌}
use native.Mathlib.Nat.{zero-add}
use native.Mathlib.Omega.{arith}
use lib.ListN.{length, drop, length-drop}
use lib.Seq.{drop-drop}
use Rattle.base.specs.Parts.{pasted}
use Rattle.refusals.specs.declared.Refusal.TheVariants.{BufferOverflow, BadState}
use Rattle.lines.specs.Put.{Puts, put_within}
use Rattle.lines.proofs.Puts.{puts_none, puts_then, puts_as, length_puts, puts_within, within_nothing}
use Rattle.kit_log.specs.Entry.{Entry}
use Rattle.kit_log.specs.Reading as log
use Rattle.kit_log.specs.Reading.{State, Reading, read_from}
use Rattle.kit_log.specs.Call.{Said, said_at, Call, call, given}
use Rattle.kit_log.proofs.Reading.{before_before, before_nil}
use Rattle.kit_log.proofs.History.{call_all}
use Rattle.log_reader.specs.State.{state_of, is_state}
use Rattle.log_reader.specs.Reader.{said_by, Runs}
use Rattle.log_reader.specs.declared.Reader.{Reader}
use Rattle.log_reader.specs.declared.Answer.{Answer}
use Rattle.log_reader.specs.declared.Answer.TheVariants as answer
use Rattle.log_lines.specs.Text.{entry_lines, longest_entry}
use Rattle.log_lines.specs.Part.{gave, status_by, Turns, status_said, Shown, is_short, list_of, Lines, Lists}
use Rattle.log_lines.specs.Part.{Status}
use Rattle.log_lines.specs.declared.Turn.{Turn}
use Rattle.log_lines.specs.declared.Listed.{Listed}
use Rattle.log_lines.proofs.Calls.{takes_some, said_at_lem, takes_inside, read_on}
use Rattle.log_lines.proofs.Laws.{lines_append}

-- ---- What an answer gives

gave_one : (piece p : List ℕ) (a : Answer) {G : Type 0} → gave a ≡ true → ((e : Entry) → given (said_by piece p a) ≡ e ∷ [] → G) → G
unfolding said_by given
gave_one piece p answer.More g f = absurd (true≢false (sym g))
gave_one piece p (answer.Entry t place) g f = f _ refl
gave_one piece p (answer.Refused r) g f = absurd (true≢false (sym g))

gave_none : (piece p : List ℕ) (a : Answer) → gave a ≡ false → given (said_by piece p a) ≡ []
unfolding said_by given
gave_none piece p answer.More g = refl
gave_none piece p (answer.Entry t place) g = absurd (true≢false g)
gave_none piece p (answer.Refused r) g = refl

status_said_lem : (piece p : List ℕ) (a : Answer) → status_by a ≡ status_said (said_by piece p a)
unfolding said_by
status_said_lem piece p answer.More = refl
status_said_lem piece p (answer.Entry t place) = refl
status_said_lem piece p (answer.Refused r) = refl

-- ---- The loop

-- the lines of the entries given are written, and the reading of the part is these and then the reading from here on
pub record Going (p₀ : List ℕ) (st₀ : Reader) (part out₀ places : List ℕ) (st : Reader) (taken at : ℕ) (out : List ℕ) : Type 0 where
  pub entries : List Entry
  pub is_state_lem : is_state places st ≡ true
  pub inside : taken ≤ length part
  pub rest : read_from (state_of p₀ st₀) part ≡ log.before entries taken (read_from (state_of places st) (drop taken part))
  pub puts : Puts out₀ 0 (entry_lines entries) out at
  pub few : at ≤ longest_entry * taken
  pub places_size : length places ≡ length p₀
  pub out_size : length out ≡ length out₀

pub begin : {p : List ℕ} {st : Reader} {out : List ℕ} (part : List ℕ) → is_state p st ≡ true → Going p st part out p st 0 0 out
unfolding entry_lines
begin {p} {st} part good =
    record {
      entries = [];
      is_state_lem = good;
      inside = omega arith;
      rest = sym (before_nil (read_from (state_of p st) part));
      puts = puts_none;
      few = omega arith;
      places_size = refl;
      out_size = refl;
    }

same_rest : {es es' : List Entry} {n n' : ℕ} {st st' : State} {s s' : List ℕ} → es ≡ es' → n ≡ n' → st ≡ st' → s ≡ s'
    → log.before es n (read_from st s) ≡ log.before es' n' (read_from st' s')
same_rest p q r t = cc

same_shown : {st st' : State} {n n' : ℕ} {s s' : Status} {b b' : List ℕ} → st ≡ st' → n ≡ n' → s ≡ s' → b ≡ b'
    → ◌≡◌ {A = Shown} (record { state = st; written = n; status = s; buffer = b }) (record { state = st'; written = n'; status = s'; buffer = b' })
same_shown p q r t = cc

module _ {p₀ : List ℕ} {st₀ : Reader} {part out₀ places : List ℕ} {st : Reader} {taken at : ℕ} {out : List ℕ}
    (enough : longest_entry * length part ≤ length out₀) (g : Going p₀ st₀ part out₀ places st taken at out)
    {places' out' : List ℕ} {r : Turn} (t : Turns places st (drop taken part) out at places' out' r) where
  abbrev unread : List ℕ
  unread = drop taken part

  abbrev c : Call
  c = call (state_of places st) unread

  abbrev said : Said
  said = said_by unread places' r.answered.answer

  runs : Runs places st unread places' r.answered
  runs = t.nexts.runs g.is_state_lem

  said_is : said ≡ c.said
  said_is = ap (λ (x : Call). x.said) runs.shown

  taken_is : r.answered.taken ≡ c.taken
  taken_is = ap (λ (x : Call). x.taken) runs.shown

  state_is : state_of places' r.answered.reader ≡ c.state
  state_is = ap (λ (x : Call). x.state) runs.shown

  pub takes : taken + r.answered.taken ≤ length part
  takes = omega (arith, takes_inside (state_of places st) unread, length-drop taken part, taken_is, g.inside)

  pub places_kept : length places' ≡ length p₀
  places_kept = runs.same ∙ g.places_size

  at_is : at ≡ length (entry_lines g.entries)
  at_is = g.puts.next ∙ zero-add (length (entry_lines g.entries))

  module _ (is : gave r.answered.answer ≡ true) where
    pub less : 1 ≤ r.answered.taken
    less =
        gave_one unread places' r.answered.answer is
        (λ e q. omega (arith, takes_some (state_of places st) unread e [] (ap given (sym said_is) ∙ q), taken_is))

    room : at + longest_entry ≤ length out
    room = omega (arith, less, takes, g.few, g.out_size, enough)

    put : Puts out at (entry_lines (given said)) out' r.at
    put = puts_within longest_entry room t.puts

    out_kept : length out' ≡ length out₀
    out_kept = length_puts (omega (arith, put.next, t.short, room)) put ∙ g.out_size

    pub again : Going p₀ st₀ part out₀ places' r.answered.reader (taken + r.answered.taken) r.at out'
    again =
        record {
          entries = g.entries ++ given said;
          is_state_lem = runs.stands;
          inside = takes;
          rest = g.rest
              ∙ ap (log.before g.entries taken) (read_on (state_of places st) unread)
              ∙ before_before g.entries (given c.said) taken c.taken (read_from c.state (drop c.taken unread))
              ∙ same_rest (ap (λ (x : Said). g.entries ++ given x) (sym said_is)) (ap (λ (n : ℕ). taken + n) (sym taken_is)) (sym state_is)
              (drop-drop c.taken taken part ∙ ap (λ (n : ℕ). drop (taken + n) part) (sym taken_is));
          puts = puts_as (lines_append g.entries (given said)) (puts_then (omega (arith, at_is, room, g.out_size)) g.puts put);
          few = omega (arith, less, t.short, g.few);
          places_size = places_kept;
          out_size = out_kept;
        }

  module _ (is : gave r.answered.answer ≡ false) where
    none : given said ≡ []
    none = gave_none unread places' r.answered.answer is

    kept : ◌≡◌ {A = ℕ × List ℕ} (r.at, out') (at, out)
    unfolding entry_lines
    kept =
        t.puts
        ∙ ap (λ (x : List Entry). put_within longest_entry (entry_lines x) at out) none
        ∙ sym (within_nothing out at longest_entry)

    pub out_same : length out' ≡ length out₀
    out_same = ap (λ (x : ℕ × List ℕ). length x.1) kept ∙ g.out_size

    all : read_from (state_of p₀ st₀) part ≡ record { entries = g.entries ++ []; state = c.state; taken = taken + c.taken }
    all = g.rest ∙ ap (log.before g.entries taken) (call_all (state_of places st) unread (ap given (sym said_is) ∙ none))

    entries_are : g.entries ≡ (read_from (state_of p₀ st₀) part).entries
    entries_are = sym (append-nil g.entries) ∙ sym (ap (λ (x : Reading). x.entries) all)

    ends_at : c.state ≡ (read_from (state_of p₀ st₀) part).state
    ends_at = sym (ap (λ (x : Reading). x.state) all)

    pub listed : Lines p₀ st₀ part out₀ places' out' (record { reader = r.answered.reader; written = r.at; status = status_by r.answered.answer })
    listed =
        record {
          shown = same_shown (state_is ∙ ends_at)
              (ap (λ (x : ℕ × List ℕ). x.0) kept ∙ at_is ∙ ap (λ (x : List Entry). length (entry_lines x)) entries_are)
              (status_said_lem unread places' r.answered.answer
              ∙ ap status_said (said_is ∙ said_at_lem (state_of places st) unread (ap given (sym said_is) ∙ none) ∙ ap said_at ends_at))
              (ap (λ (x : ℕ × List ℕ). x.1) kept ∙ g.puts.written ∙ ap (λ (x : List Entry). pasted out₀ 0 (entry_lines x)) entries_are);
          stands = runs.stands;
          written_in = omega (arith, ap (λ (x : ℕ × List ℕ). x.0) kept, g.few, g.inside, enough);
        }

-- ---- Any part

module _ {p : List ℕ} {st : Reader} {part out : List ℕ} where
  pub bad_state_lem : is_state p st ≡ false → Lists p st part out p out (record { reader = st; written = 0; status = Err BadState })
  unfolding list_of
  bad_state_lem bad = record { shown = simp bad; written_in = omega arith; stands = λ good. absurd (true≢false (sym good ∙ bad)); kept = λ k. (refl, refl) }

  pub no_room : is_state p st ≡ true → is_short part out ≡ true → Lists p st part out p out (record { reader = st; written = 0; status = Err BufferOverflow })
  unfolding list_of
  no_room good short = record { shown = simp (good, short); written_in = omega arith; stands = λ k. good; kept = λ k. (refl, refl) }

  pub all_listed : {places outAfter : List ℕ} {r : Listed} → is_state p st ≡ true → is_short part out ≡ false → Lines p st part out places outAfter r
      → Lists p st part out places outAfter r
  unfolding list_of
  all_listed good enough l =
      record {
        shown = simp (good, enough) l.shown;
        written_in = l.written_in;
        stands = λ k. l.stands;
        kept = λ k. absurd (true≢false (sym (simp good at k) ∙ enough));
      }
