-- What the loop over a piece keeps: what is held and what is unread carry on the text of the held bytes and then the piece, with its numbering, and a
-- valid state that asks for more is left.
-- Assumes nothing.
use mathlib.Core.Path.{◌≡◌, refl, sym, ap, ◌∙◌, subst}
use mathlib.Core.Bool.{Bool, true, false, true≢false, and-eq-true_iff, ◌&&◌}
use mathlib.Core.List.{List, [], ◌++◌}
use Prim.Native.Nat.{ℕ, ◌+◌, ◌-◌, ◌≤◌}
use native.Mathlib.Omega.{arith}
use borrow.Author.Tests.{le-leb}
use lib.Dec.{leb}
use lib.ListN.{length, take, drop, length-drop}
use lib.Seq.{drop-drop}
use Rattle.std.specs.Prelude.{Ok}
use Rattle.base.proofs.Tests.{by_test}
use Rattle.reading.specs.Reading.{Reading, reading}
use Rattle.stream.specs.Places.{held_in}
use Rattle.stream.specs.Step.{is_span}
use Rattle.stream.proofs.Loop.{unread_is}
use Rattle.listing.specs.Numbering.{Numbering, past}
use Rattle.listing.specs.Listing.{Listing, list_of}
use Rattle.listing.specs.Fill.{Fills, Lists, status_of}
use Rattle.listing.specs.declared.Listed.{Listed}
use Rattle.listing.specs.declared.Status.{Status}
use Rattle.listing.specs.declared.Status.TheVariants.{More, Full}
use Rattle.listing.proofs.Filled.{listed_fills}
use Rattle.listing.proofs.Laws.{Text, text_begin, text_offer, text_code, last, whole, still_few}
use Rattle.listing_io.specs.State.{Sound, Leaves}

pub is_span_lem : {m start end : ℕ} → Sound m start end → is_span m start end ≡ true
is_span_lem {m} {start} {end} s =
    (and-eq-true_iff (leb 4 m) (leb start end && leb end m)).1
    (le-leb 4 m s.four, (and-eq-true_iff (leb start end) (leb end m)).1 (le-leb start end s.ordered, le-leb end m s.inside))

abbrev asks_more : Status → Bool
asks_more More = true
asks_more Full = false

pub record Kept (before out₀ : List ℕ) (start end : ℕ) (n : Numbering) (piece places out : List ℕ) (from to : ℕ) (now : Numbering) (taken : ℕ) : Type 0 where
  pub sound : Sound (length before) from to
  pub taken_in : taken ≤ length piece
  pub places_size : length places ≡ length before
  pub out_size : length out ≡ length out₀
  pub text : List ℕ
  pub carried : Text (length before) n (held_in before start end ++ piece) (held_in places from to) (drop taken piece) now text

pub begin : {before out : List ℕ} {start end : ℕ} (n : Numbering) (piece : List ℕ) → Sound (length before) start end
    → Kept before out start end n piece before out start end n 0
begin {before} {start = start} {end} n piece s =
    record {
      sound = s;
      taken_in = omega arith;
      places_size = refl;
      out_size = refl;
      text = [];
      carried = text_offer piece (text_begin (length before) n (held_in before start end));
    }

-- what is lent of a piece is all of it that is not taken
pub lent : {places out places' out' : List ℕ} {from to : ℕ} {now : Numbering} {r : Listed} (piece : List ℕ) (taken : ℕ)
    → Lists places from to now (take (length piece - taken) (drop taken piece)) out places' out' (Ok r)
    → Lists places from to now (drop taken piece) out places' out' (Ok r)
lent {places} {out} {places'} {out'} {from} {to} {now} {r} piece taken =
    subst (λ (l : List ℕ). Lists places from to now l out places' out' (Ok r)) (unread_is piece taken)

module _ {before out₀ : List ℕ} {start end : ℕ} {n : Numbering} {piece places out : List ℕ} {from to : ℕ} {now : Numbering} {taken : ℕ}
    (k : Kept before out₀ start end n piece places out from to now taken) where
  abbrev stream : List ℕ
  stream = held_in before start end ++ piece

  abbrev unread : List ℕ
  unread = drop taken piece

  -- as the places are now
  pub now_sound : Sound (length places) from to
  now_sound = subst (λ (m : ℕ). Sound m from to) (sym k.places_size) k.sound

  now_carried : Text (length places) n stream (held_in places from to) unread now k.text
  now_carried = subst (λ (m : ℕ). Text m n stream (held_in places from to) unread now k.text) (sym k.places_size) k.carried

  module _ {places' out' : List ℕ} {r : Listed} (same : length places' ≡ length places) (same_out : length out' ≡ length out)
      (lists : Lists places from to now unread out places' out' (Ok r)) where
    abbrev l : Listing
    l = list_of (length places) now (held_in places from to) unread (length out)

    filled : Fills (length places) l unread out places' out' r
    filled = (listed_fills lists).1

    pub sound' : Sound (length before) r.start r.end
    sound' =
        record {
          four = k.sound.four;
          ordered = filled.ordered;
          inside = omega (arith, filled.inside, k.places_size);
          few = omega (arith, still_few same now_sound.ordered now_sound.inside now_sound.few lists, k.places_size);
        }

    pub takes : taken + r.taken ≤ length piece
    takes = omega (arith, filled.taken_in, length-drop taken piece, k.taken_in)

    pub places_kept : length places' ≡ length before
    places_kept = same ∙ k.places_size

    pub out_kept : length out' ≡ length out₀
    out_kept = same_out ∙ k.out_size

    -- as a part leaves it, whether more of the piece is to come or not
    pub again : Kept before out₀ start end n piece places' out' r.start r.end r.numbering (taken + r.taken)
    again =
        let text' = k.text ++ take r.written out' in
        let held' = held_in places' r.start r.end in
        record {
          sound = sound';
          taken_in = takes;
          places_size = places_kept;
          out_size = out_kept;
          text = text';
          carried = subst (λ (m : ℕ). Text m n stream held' (drop (taken + r.taken) piece) r.numbering text') k.places_size
              (subst (λ (x : List ℕ). Text (length places) n stream held' x r.numbering text') (drop-drop r.taken taken piece)
              (text_code filled unread (length out) refl now_carried));
        }

    -- the listing asked for more: all is listed, and what is held is the tail
    asked : r.status ≡ More → l.asks ≡ true
    asked ended = by_test l.asks (λ q. q) (λ q. absurd (true≢false (sym (ap asks_more ended) ∙ ap asks_more (filled.status_is ∙ ap status_of q))))

    pub leaves : r.status ≡ More → Leaves before start end n piece places' (record { start = r.start; end = r.end; numbering = r.numbering })
    leaves ended =
        let asks = asked ended in
        let all = whole unread (length out) now_carried asks in
        let at = ap (λ (m : ℕ). reading m stream) k.places_size in
        record {
          sound = sound';
          tail_is = filled.held_is ∙ ap (λ (x : Reading). x.tail) (sym all ∙ at);
          number_is = filled.next_is
              ∙ (last unread (length out) now_carried asks).number
              ∙ ap (λ (x : Reading). past n x.answers) (sym all ∙ at);
        }
