-- What the listing of a piece leaves, what comes then, and that a reset reader is a state.
-- Assumes nothing.
use mathlib.Core.Path.{◌≡◌, refl, sym, ap, subst}
use mathlib.Core.Bool.{true, true≢false}
use mathlib.Core.List.{List}
use Prim.Native.Nat.{ℕ, ◌*◌, ◌≤◌}
use borrow.Author.Tests.{le-leb, le-ltb}
use lib.ListN.{length}
use Rattle.std.specs.Prelude.{Result, Ok, Err, IfOk}
use Rattle.std.specs.Result.{IsErr}
use Rattle.refusals.specs.declared.Refusal.{Refusal}
use Rattle.program.specs.declared.Failed.{Failed}
use Rattle.reading.specs.Reading.{limit}
use Rattle.kit_log.specs.Reading.{read_from}
use Rattle.log_reader.specs.State.{state_of, is_state}
use Rattle.log_reader.specs.declared.Wanted.TheVariants.{Version}
use Rattle.log_reader.specs.declared.Reader.{Reader}
use Rattle.log_reader.specs.declared.Reader.TheVariants.{Number}
use Rattle.log_lines.specs.Text.{longest_entry}
use Rattle.log_lines.specs.Part.{Shown, list_of, Lists}
use Rattle.log_lines.specs.declared.Listed.{Listed}
use Rattle.log_io.specs.declared.Next.{Next}
use Rattle.log_io.specs.declared.State.{State}
use Rattle.log_io.specs.State.{Leaves, next_by, next_after, state_after}

pub fresh : (p : List ℕ) → limit ≤ length p → is_state p (Number Version 0 0) ≡ true
unfolding is_state
fresh p room = simp (le-leb limit (length p) room)

-- where there is room, all of the piece is read
pub all_read : {before : List ℕ} {reader : Reader} {piece out places outAfter : List ℕ} {r : Listed} → is_state before reader ≡ true
    → longest_entry * length piece ≤ length out → Lists before reader piece out places outAfter r
    → state_of places r.reader ≡ (read_from (state_of before reader) piece).state
unfolding list_of
all_read {piece = piece} {out} good room l =
    ap (λ (s : Shown). s.state) (simp (good, le-ltb (length out) (longest_entry * length piece) room) at l.shown)

pub left : {before : List ℕ} {reader : Reader} {piece out places outAfter : List ℕ} {r : Listed} → is_state before reader ≡ true
    → longest_entry * length piece ≤ length out → Lists before reader piece out places outAfter r → Leaves before reader piece places r.reader
left good room l = record { stands = l.stands good; state_is = all_read good room l }

-- nothing comes where it was not written, and else what the status says
after_ok : (written : Result Unit Failed) (status : Result Unit Refusal) → IfOk (next_after written status) (λ next. next ≡ next_by status)
after_ok (Ok tt) status = refl
after_ok (Err failed) status = tt

pub goes_on_by : {next : Next} (written : Result Unit Failed) (listed : Listed) → Ok next ≡ next_after written listed.status
    → record { reader = listed.reader; next = next } ≡ state_after listed
goes_on_by written listed e =
    ap (λ (n : Next). record { reader = listed.reader; next = n })
    (subst (λ (r : Result Next Failed). IfOk r (λ n. n ≡ next_by listed.status)) (sym e) (after_ok written listed.status))

pub no_state : (listed : Listed) (r : Result State Failed) → IsErr r → IfOk r (λ state. state ≡ state_after listed)
no_state listed (Ok state) e = absurd (true≢false (sym e))
no_state listed (Err failed) e = tt
