-- What a host is answered about a log, spelled a second time: the eight bytes of each answer, and the lent number. Numbers that were changed in the
-- definition and in the code together are refused here.
-- Assumes nothing.
use Rattle.std.specs.Prelude.{Ok, Err}
use mathlib.Core.Path.{◌≡◌, refl, ap, ◌∙◌}
use mathlib.Core.Bool.{false}
use mathlib.Core.List.{List, [], ◌∷◌}
use Prim.Native.Nat.{ℕ}
use native.Mathlib.Omega.{arith}
use Rattle.refusals.specs.declared.Refusal.{Refusal}
use Rattle.refusals.specs.declared.Refusal.TheVariants.{InvalidLog, InvalidFrame}
use Rattle.host_answer.specs.Answer.{packed, lowest_first, answer_row}
use Rattle.host_answer.specs.Seen.{unpacked}
use Rattle.host_answer.proofs.Packing.{unpack}
use Rattle.host_answer.proofs.Numbers.{refusal_bytes, refusal_bytes_lem, row_bytes}
use Rattle.host_answer.proofs.Fits.{Fits}
use Rattle.kit_log.specs.Entry as log
use Rattle.kit_log.specs.Call.{gives}
use Rattle.log_reader.specs.Reader.{said_by}
use Rattle.log_reader.specs.declared.Place.TheVariants.{InPiece, InHeld}
use Rattle.log_reader.specs.declared.Answer.{Answer}
use Rattle.log_reader.specs.declared.Answer.TheVariants.{More, Entry, Refused}
use Rattle.host_log.specs.State.{is_state}
use Rattle.host_log.specs.Calls.{ending_row}
use Rattle.host_log.specs.Answer.{answer_of, seconds_by, Calls, EndCalls}
use Rattle.host_log.proofs.Fits.{log_fits}
use Rattle.host_log.proofs.Calls.{whole}

-- ---- a call

-- more; an entry whose frame stands in the piece, or in the state behind its head of eleven; a refusal
abbrev pub eight_of : ℕ → Answer → List ℕ
eight_of taken More = 255 ∷ taken ∷ 0 ∷ 0 ∷ 0 ∷ 0 ∷ 0 ∷ 0 ∷ []
eight_of taken (Entry t (InPiece at n)) = 0 ∷ taken ∷ 0 ∷ at ∷ n ∷ 0 ∷ 0 ∷ 0 ∷ []
eight_of taken (Entry t (InHeld n)) = 0 ∷ taken ∷ 1 ∷ 11 ∷ n ∷ 0 ∷ 0 ∷ 0 ∷ []
eight_of taken (Refused r) = refusal_bytes taken r

eight : (t : ℕ) (a : Answer) → Fits (answer_of t a) → unpacked 8 (packed (answer_of t a)) ≡ eight_of t a
unfolding answer_of
eight t More f = unpack _ (whole t More f)
eight t (Entry s (InPiece at n)) f = unpack _ (whole t (Entry s (InPiece at n)) f)
eight t (Entry s (InHeld n)) f = unpack _ (whole t (Entry s (InHeld n)) f)
eight t (Refused r) f = refusal_bytes_lem t r f.0

pub log_bytes_lem : {before input after : List ℕ} {lent given r : ℕ} (c : Calls before input lent after given r)
    → unpacked 8 r ≡ eight_of c.replied.taken c.replied.answer
log_bytes_lem c = ap (unpacked 8) c.packs ∙ eight c.replied.taken c.replied.answer (log_fits c.steps)

-- what is no state is answered 8, takes nothing, and stays, the lent number too
pub no_state : {before input after : List ℕ} {lent given r : ℕ} → Calls before input lent after given r → is_state before ≡ false
    → (unpacked 8 r ≡ 8 ∷ 0 ∷ 0 ∷ 0 ∷ 0 ∷ 0 ∷ 0 ∷ 0 ∷ []) × ((after ≡ before) × (given ≡ lent))
no_state {lent = lent} c bad =
    let refused = c.steps.refuses bad in
    (log_bytes_lem c ∙ rw refused.0 refl, (refused.1, c.gives ∙ rw refused.0 refl))

-- 9 and 10 carry nothing
pub nine_bytes : (taken : ℕ) → refusal_bytes taken InvalidLog ≡ 9 ∷ taken ∷ 0 ∷ 0 ∷ 0 ∷ 0 ∷ 0 ∷ 0 ∷ []
nine_bytes taken = refl

pub ten_bytes : (taken : ℕ) → refusal_bytes taken InvalidFrame ≡ 10 ∷ taken ∷ 0 ∷ 0 ∷ 0 ∷ 0 ∷ 0 ∷ 0 ∷ []
ten_bytes taken = refl

-- the lent number gets the seconds of the entry that is given, and nothing with any other answer
pub seconds_given : (piece p : List ℕ) (a : Answer) (lent : ℕ) {e : log.Entry} → said_by piece p a ≡ gives e → seconds_by a lent ≡ e.seconds
unfolding said_by
seconds_given piece p More lent q = absurd (let z : ◌≡◌ {A = ℕ} 0 1 = cc in omega arith)
seconds_given piece p (Entry t place) lent q = cc
seconds_given piece p (Refused r) lent q = absurd (let z : ◌≡◌ {A = ℕ} 0 1 = cc in omega arith)

pub seconds_kept : (piece p : List ℕ) (a : Answer) (lent : ℕ) → ((e : log.Entry) → said_by piece p a ≡ gives e → ⊥) → seconds_by a lent ≡ lent
unfolding said_by
seconds_kept piece p More lent none = refl
seconds_kept piece p (Entry t place) lent none = absurd (none _ refl)
seconds_kept piece p (Refused r) lent none = refl

-- ---- the end

pub ended_bytes : {before after : List ℕ} {r : ℕ} (c : EndCalls before after r) → c.ending ≡ (Ok tt) → unpacked 8 r ≡ 0 ∷ 0 ∷ 0 ∷ 0 ∷ 0 ∷ 0 ∷ 0 ∷ 0 ∷ []
unfolding ending_row answer_row unpacked lowest_first
ended_bytes c e = ap (unpacked 8) c.packs ∙ rw e refl

pub end_refuses : {before after : List ℕ} {r : ℕ} (c : EndCalls before after r) (k : Refusal) → c.ending ≡ Err k → unpacked 8 r ≡ refusal_bytes 0 k
unfolding ending_row
end_refuses c k e = row_bytes k c.packs (ap ending_row e)
