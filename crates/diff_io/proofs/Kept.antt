-- What the loop over two blocks keeps: the blocks are as long as they were, the unread bytes stand in them, and all that was compared and written so far
-- is a run of crate comparing, whose uploads are what was read.
-- Assumes nothing.
use mathlib.Core.Path.{◌≡◌, refl, sym, ◌∙◌}
use mathlib.Core.Bool.{Bool, false}
use mathlib.Core.List.{List, []}
use Prim.Native.Nat.{ℕ, ◌+◌, ◌-◌, ◌≤◌}
use native.Mathlib.Omega.{arith}
use lib.ListN.{length}
use Rattle.std.proofs.lemmas.Option.{none-some}
use Rattle.std.specs.Prelude.{None, Ok}
use Rattle.base.specs.Parts.{part}
use Rattle.base.proofs.Parts.{length_part}
use Rattle.comparing.specs.Call.{is_whole, wants_left, wants_right, compared_of}
use Rattle.comparing.specs.Run.{Upload, fresh, Run, begin}
use Rattle.comparing.specs.declared.Compared.{Compared}
use Rattle.comparing.specs.declared.Wants.{Wants}
use Rattle.comparing.specs.declared.Wants.TheVariants.{Left, Right, Room, Nothing, Refused}
use Rattle.comparing.proofs.Progress.{Asks}
use Rattle.diff_io.specs.State.{Sound, Feeds, found_by, ended_by}
use Rattle.diff_io.specs.declared.Fed.{Fed}
use Rattle.diff_io.proofs.Asked.{left_by, right_by}
use Rattle.diff_io.proofs.Laws.{Holds, call_on, left_on, right_on, fed_on}

pub record Kept (left₀ right₀ out₀ left right out : List ℕ) (l l-to : ℕ) (l-ends : Bool) (r r-to : ℕ) (r-ends : Bool) (agree differ : ℕ) : Type 0 where
  pub left_size : length left ≡ length left₀
  pub right_size : length right ≡ length right₀
  pub out_size : length out ≡ length out₀
  pub left_sound : Sound (length left) l l-to
  pub right_sound : Sound (length right) r r-to
  pub u : Upload
  pub v : Upload
  pub text : List ℕ
  pub run : Run u v agree differ text
  pub left_holds : Holds u left l l-to l-ends
  pub right_holds : Holds v right r r-to r-ends

pub begun : (left right out : List ℕ) → Kept left right out left right out 0 0 false 0 0 false 0 0
begun left right out = record {
  left_size = refl;
  right_size = refl;
  out_size = refl;
  left_sound = record { ordered = omega arith; inside = omega arith };
  right_sound = record { ordered = omega arith; inside = omega arith };
  u = fresh;
  v = fresh;
  text = [];
  run = begin;
  left_holds = record { unread_is = refl; ends_is = refl };
  right_holds = record { unread_is = refl; ends_is = refl };
}

-- one that goes on has no whole text
not_whole : (w : Wants) (differ : ℕ) → ended_by w differ ≡ None → is_whole w ≡ false
not_whole Left differ e = refl
not_whole Right differ e = refl
not_whole Room differ e = refl
not_whole Nothing differ e = absurd (none-some (Ok (found_by differ)) (sym e))
not_whole (Refused r) differ e = refl

module _ {left₀ right₀ out₀ left right out : List ℕ} {l l-to : ℕ} {l-ends : Bool} {r r-to : ℕ} {r-ends : Bool} {n d : ℕ}
    (kept : Kept left₀ right₀ out₀ left right out l l-to l-ends r r-to r-ends n d) where
  -- how many bytes of each upload are unread
  pub left_long : length (part left l (l-to - l)) ≡ l-to - l
  left_long = length_part left l (l-to - l) (omega (arith, kept.left_sound.ordered, kept.left_sound.inside))

  pub right_long : length (part right r (r-to - r)) ≡ r-to - r
  right_long = length_part right r (r-to - r) (omega (arith, kept.right_sound.ordered, kept.right_sound.inside))

  -- what a call is done with lies before their ends
  pub left_going : {k : ℕ} → k ≤ length (part left l (l-to - l)) → Sound (length left) (l + k) l-to
  left_going inside = record { ordered = omega (arith, kept.left_sound.ordered, left_long, inside); inside = kept.left_sound.inside }

  pub right_going : {k : ℕ} → k ≤ length (part right r (r-to - r)) → Sound (length right) (r + k) r-to
  right_going inside = record { ordered = omega (arith, kept.right_sound.ordered, right_long, inside); inside = kept.right_sound.inside }

module _ {left₀ right₀ out₀ left right out : List ℕ} {l l-to : ℕ} {l-ends : Bool} {r r-to : ℕ} {r-ends : Bool} {n d : ℕ}
    (kept : Kept left₀ right₀ out₀ left right out l l-to l-ends r r-to r-ends n d) {outAfter : List ℕ} {c : Compared}
    (is : (c, outAfter) ≡ compared_of (part left l (l-to - l)) l-ends (part right r (r-to - r)) r-ends n d out)
    (asks : Asks (part left l (l-to - l)) (part right r (r-to - r)) l-ends r-ends n d (length out) c) (goes : ended_by c.wants c.counts.differ ≡ None) where
  -- one turn of the loop: a call, and a read where one is asked for
  pub again : {left' right' : List ℕ} {x y : Fed} → length outAfter ≡ length out → l + c.left ≤ l-to → r + c.right ≤ r-to
      → Feeds (wants_left c.wants) left (l + c.left) l-to l-ends left' x → length left' ≡ length left
      → Feeds (wants_right c.wants) right (r + c.right) r-to r-ends right' y → length right' ≡ length right
      → Kept left₀ right₀ out₀ left' right' outAfter x.from x.to x.ends y.from y.to y.ends c.counts.agree c.counts.differ
  again out_same l-in r-in fed left-same fed' right-same =
      let on = not_whole c.wants c.counts.differ goes in
      let run = call_on out kept.run kept.left_holds kept.right_holds is on in
      let lh = left_on out kept.run kept.left_holds kept.right_holds is on l-in in
      let rh = right_on out kept.run kept.left_holds kept.right_holds is on r-in in
      let lg = fed_on lh fed (λ e. kept.left_holds.ends_is ∙ (asks.more_left (left_by c.wants e)).0) in
      let rg = fed_on rh fed' (λ e. kept.right_holds.ends_is ∙ (asks.more_right (right_by c.wants e)).0) in
      record {
        left_size = left-same ∙ kept.left_size;
        right_size = right-same ∙ kept.right_size;
        out_size = out_same ∙ kept.out_size;
        left_sound = record { ordered = fed.sound.ordered; inside = omega (arith, fed.sound.inside) };
        right_sound = record { ordered = fed'.sound.ordered; inside = omega (arith, fed'.sound.inside) };
        u = lg.next;
        v = rg.next;
        text = _;
        run = rg.grown.on_right (lg.grown.on_left run);
        left_holds = lg.holds;
        right_holds = rg.holds;
      }
