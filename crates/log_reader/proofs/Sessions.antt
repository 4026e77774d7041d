-- Every session with the reader is a history of the definition's calls: so whatever the cuts, it gives the log's entries and comes to its end state.
-- Assumes nothing.
use mathlib.Core.Path.{◌≡◌, sym, subst}
use mathlib.Core.Bool.{true}
use Prim.Native.Nat.{ℕ}
use mathlib.Core.List.{List, ◌++◌}
use lib.ListN.{drop}
use Rattle.kit_log.specs.Entry.{Entry}
use Rattle.kit_log.specs.Reading.{State}
use Rattle.kit_log.specs.Call as calls
use Rattle.kit_log.specs.Call.{Call, call, given, History, Faithful}
use Rattle.log_reader.specs.State.{state_of, is_state}
use Rattle.log_reader.specs.Reader.{said_by, shown_by}
use Rattle.log_reader.specs.Session.{Session, begin, offer, ask}
use Rattle.log_reader.specs.declared.Wanted.TheVariants.{Version}
use Rattle.log_reader.specs.declared.Reader.{Reader}
use Rattle.log_reader.specs.declared.Answered.{Answered}
use Rattle.log_reader.proofs.Readers.{stands_fresh}
use Rattle.kit_log.proofs.History.{faithful}

asked : {stream : List ℕ} {from : State} {es : List Entry} (input behind after : List ℕ) (r : Answered)
    → shown_by input after r ≡ call from input → History stream from (input ++ behind) es
    → History stream (state_of after r.reader) (drop r.taken input ++ behind) (es ++ given (said_by input after r.answer))
asked {stream} {from} {es} input behind after r e h =
    subst (λ (c : Call). History stream c.state (drop c.taken input ++ behind) (es ++ given c.said)) (sym e) (calls.ask input behind h)

pub followed : {stream p unread : List ℕ} {st : Reader} {es : List Entry} → Session stream p st unread es
    → History stream (state_of p st) unread es × (is_state p st ≡ true)
followed (begin p room) = (calls.begin, stands_fresh p Version room)
followed (offer piece s) = let f = followed s in (calls.offer piece f.0, f.1)
followed (ask input behind after r s n) =
    let f = followed s in
    let runs = n.runs f.1 in
    (asked input behind after r runs.shown f.0, runs.stands)

-- the theorem of demand 3, for logs
pub any_cut : {stream p unread : List ℕ} {st : Reader} {es : List Entry} → Session stream p st unread es → Faithful stream (state_of p st) unread es
any_cut s = faithful (followed s).0
