-- Each public function's promise leaves one answer: what two results that keep it show is the same. Free is only where the held bytes stand, and of a
-- refused state nothing is.
-- Assumes nothing.
use mathlib.Core.Path.{◌≡◌, sym, ap, ◌∙◌}
use mathlib.Core.List.{List, []}
use Prim.Native.Nat.{ℕ, ◌-◌}
use lib.ListN.{length}
use Rattle.std.specs.Prelude.{Result, Ok, Err}
use Rattle.base.specs.Parts.{pasted}
use Rattle.base.proofs.Tests.{by_test}
use Rattle.base.proofs.Unique.{OneAnswer, same}
use Rattle.refusals.specs.declared.Refusal.{Refusal}
use Rattle.stream.specs.Places.{held_in}
use Rattle.stream.specs.Step.{is_span}
use Rattle.listing.specs.Numbering.{Numbering, is_countable}
use Rattle.listing.specs.Listing.{Listing}
use Rattle.listing.specs.Fill.{status_of, Fills, Lists}
use Rattle.listing.specs.declared.Listed.{Listed}
use Rattle.listing.specs.declared.Status.{Status}
use Rattle.listing.proofs.list_in.Reads as list-in
use Rattle.listing.proofs.list_last.Reads as list-last

-- what a listing shows
pub record Shown : Type 0 where
  pub held : List ℕ
  pub taken : ℕ
  pub written : ℕ
  pub status : Status
  pub numbering : Numbering

-- .. or its refusal, with all of the places: where the held bytes stand in them is the caller's to keep
pub record Shows : Type 0 where
  pub answer : Result Shown Refusal
  pub buffer : List ℕ
  pub refused : List ℕ

abbrev pub shows : Result Listed Refusal → List ℕ → List ℕ → Shows
shows (Ok l) places out = record {
  answer = Ok (record { held = held_in places l.start l.end; taken = l.taken; written = l.written; status = l.status; numbering = l.numbering });
  buffer = out;
  refused = [];
}
shows (Err e) places out = record { answer = Err e; buffer = out; refused = places }

by_promise : {m : ℕ} {l : Listing} {input out places outAfter : List ℕ} {k : Listed} → Fills m l input out places outAfter k
    → shows (Ok k) places outAfter
    ≡ record {
      answer = Ok (record { held = l.held; taken = l.taken; written = length l.lines; status = status_of l.asks; numbering = l.next });
      buffer = pasted out 0 l.lines;
      refused = [];
    }
by_promise d =
    let p = d.held_is in
    let q = d.taken_is in
    let u = d.written_is in
    let v = d.status_is in
    let w = d.buffer in
    let y = d.next_is in
    cc

filled : {m : ℕ} {l : Listing} {input out places outAfter : List ℕ} {r : Result Listed Refusal}
    → (k : Listed) × ((r ≡ Ok k) × Fills m l input out places outAfter k)
    → shows r places outAfter
    ≡ record {
      answer = Ok (record { held = l.held; taken = l.taken; written = length l.lines; status = status_of l.asks; numbering = l.next });
      buffer = pasted out 0 l.lines;
      refused = [];
    }
filled {places = places} {outAfter} d = ap (λ (r : Result Listed Refusal). shows r places outAfter) d.1.0 ∙ by_promise d.1.1

same_refusal : {before out places places' outAfter outAfter' : List ℕ} {r r' e : Result Listed Refusal} → (r ≡ e) × ((places ≡ before) × (outAfter ≡ out))
    → (r' ≡ e) × ((places' ≡ before) × (outAfter' ≡ out)) → shows r places outAfter ≡ shows r' places' outAfter'
same_refusal p q =
    let r = p.0 in
    let r' = q.0 in
    let s = p.1.0 in
    let s' = q.1.0 in
    let t = p.1.1 in
    let t' = q.1.1 in
    cc

one_listing : (before : List ℕ) (start end : ℕ) (n : Numbering) (input out : List ℕ) {places places' outAfter outAfter' : List ℕ} {r r' : Result Listed Refusal}
    → Lists before start end n input out places outAfter r → Lists before start end n input out places' outAfter' r'
    → shows r places outAfter ≡ shows r' places' outAfter'
one_listing before start end n input out a b =
    by_test (is_span (length before) start end)
    (λ good.
    by_test (is_countable n (end - start) (length input))
    (λ enough. filled (a.fills good enough) ∙ sym (filled (b.fills good enough)))
    (λ short. same_refusal (a.beyond good short) (b.beyond good short)))
    (λ bad. same_refusal (a.refuses bad) (b.refuses bad))

pub list_in_one : OneAnswer {Seen = Shows} list-in.Post (λ κs r s. shows r s.0.now s.1.1.1.1.1.0.now)
list_in_one κs a r r' s s' = one_listing _ _ _ _ _ _

pub list_last_one : OneAnswer {Seen = ℕ × List ℕ} list-last.Post (λ κs r s. (r, s.1.1.0.now))
list_last_one κs a r r' s s' p q = same p.0 q.0
