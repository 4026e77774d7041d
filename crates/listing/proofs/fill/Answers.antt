use mathlib.Core.Path.{◌≡◌, sym, ap, ◌∙◌, subst}
use mathlib.Core.List.{List}
use Prim.Native.Nat.{ℕ, ◌-◌, ◌≤◌}
use native.Mathlib.Omega.{arith}
use lib.ListN.{length, drop}
use Rattle.stream.proofs.Spans.{span_bounds}
use Rattle.stream.proofs.Loop.{unread_is}
use Rattle.listing.specs.Numbering.{past, room_for}
use Rattle.listing.specs.Fill.{Turns}
use Rattle.listing.proofs.Numberings.{room_past}
use Rattle.listing.proofs.Filled.{begin, is_span_lem, now_is, reaches, full, out_size', takes, less, again, more}
use Rattle.listing.proofs.fill.Goals as goal

pub overflow_sub-held : goal.overflow_sub-held
overflow_sub-held c =
    let a = c.args in
    (span_bounds (length a.places.now) a.start a.end c.requires.0).1.0

pub loop-out-init : goal.loop-out-init
loop-out-init c =
    let a = c.args in
    begin a.places.now a.start a.end a.numbering a.input.now a.out.now c.requires.0

pub overflow_sub-out : goal.overflow_sub-out
overflow_sub-out c =
    let f = c.loop-out.invariant in omega (arith, f.room, f.out_size)

pub overflow_sub-to : goal.overflow_sub-to
overflow_sub-to c =
    let s = c.loop-out in (span_bounds (length s.places) s.from s.to (is_span_lem s.invariant)).1.0

pub moved_on-number-requires : goal.moved_on-number-requires
moved_on-number-requires c =
    reaches c.loop-out.invariant c.requires.1

pub slice_bounds-list_one-count : goal.slice_bounds-list_one-count
slice_bounds-list_one-count c =
    c.loop-out.invariant.going.inside

pub slice_bounds-list_one-start : goal.slice_bounds-list_one-start
slice_bounds-list_one-start c =
    c.loop-out.invariant.going.inside

pub list_one-one-requires : goal.list_one-one-requires
list_one-one-requires c =
    let numbered : (c.moved_on-number.result ≡ past c.args.numbering c.loop-out.invariant.given) = c.moved_on-number.ensures ∙ now_is c.loop-out.invariant in
    let enough : (let s = c.loop-out in room_for c.args.numbering ≤ length s.out - s.at) = omega (arith, c.loop-out-test.true, c.room_for-room.ensures) in
    let f = c.loop-out.invariant in (
      is_span_lem f,
      omega (arith, enough, f.room, f.out_size, ap room_for numbered, room_past c.args.numbering f.given),
    )

pub overflow_add-taken : goal.overflow_add-taken
overflow_add-taken c =
    let turn : (let s = c.loop-out in
    let unread = drop s.taken c.args.input.now in let one = c.list_one-one in
    Turns s.places s.from s.to c.moved_on-number.result unread s.out s.at one.new.places one.new.out one.result) = let s = c.loop-out in
    let one = c.list_one-one in
    subst
    (λ (l : List ℕ).
    Turns s.places s.from s.to c.moved_on-number.result l s.out s.at one.new.places one.new.out one.result)
    (unread_is c.args.input.now s.taken)
    one.ensures in
    let numbered : (c.moved_on-number.result ≡ past c.args.numbering c.loop-out.invariant.given) = c.moved_on-number.ensures ∙ now_is c.loop-out.invariant in
    let enough : (let s = c.loop-out in room_for c.args.numbering ≤ length s.out - s.at) = omega (arith, c.loop-out-test.true, c.room_for-room.ensures) in
    omega (arith, takes c.loop-out.invariant numbered enough turn)

pub shape_of-places-then-asks_for_more : goal.shape_of-places-then-asks_for_more
shape_of-places-then-asks_for_more c =
    c.list_one-one.auto.places ∙ c.loop-out.invariant.going.size

pub shape_of-out-then-asks_for_more : goal.shape_of-out-then-asks_for_more
shape_of-out-then-asks_for_more c =
    let turn : (let s = c.loop-out in
    let unread = drop s.taken c.args.input.now in let one = c.list_one-one in
    Turns s.places s.from s.to c.moved_on-number.result unread s.out s.at one.new.places one.new.out one.result) = let s = c.loop-out in
    let one = c.list_one-one in
    subst
    (λ (l : List ℕ).
    Turns s.places s.from s.to c.moved_on-number.result l s.out s.at one.new.places one.new.out one.result)
    (unread_is c.args.input.now s.taken)
    one.ensures in
    let numbered : (c.moved_on-number.result ≡ past c.args.numbering c.loop-out.invariant.given) = c.moved_on-number.ensures ∙ now_is c.loop-out.invariant in
    let enough : (let s = c.loop-out in room_for c.args.numbering ≤ length s.out - s.at) = omega (arith, c.loop-out-test.true, c.room_for-room.ensures) in
    out_size' c.loop-out.invariant numbered enough turn

pub returns-then-asks_for_more : goal.returns-then-asks_for_more
returns-then-asks_for_more c =
    let turn : (let s = c.loop-out in
    let unread = drop s.taken c.args.input.now in let one = c.list_one-one in
    Turns s.places s.from s.to c.moved_on-number.result unread s.out s.at one.new.places one.new.out one.result) = let s = c.loop-out in
    let one = c.list_one-one in
    subst
    (λ (l : List ℕ).
    Turns s.places s.from s.to c.moved_on-number.result l s.out s.at one.new.places one.new.out one.result)
    (unread_is c.args.input.now s.taken)
    one.ensures in
    let numbered : (c.moved_on-number.result ≡ past c.args.numbering c.loop-out.invariant.given) = c.moved_on-number.ensures ∙ now_is c.loop-out.invariant in
    let enough : (let s = c.loop-out in room_for c.args.numbering ≤ length s.out - s.at) = omega (arith, c.loop-out-test.true, c.room_for-room.ensures) in
    more c.loop-out.invariant numbered enough turn (sym c.asks_for_more.ensures ∙ c.if-asks_for_more.true)

pub loop-out-smaller : goal.loop-out-smaller
loop-out-smaller c =
    let turn : (let s = c.loop-out in
    let unread = drop s.taken c.args.input.now in let one = c.list_one-one in
    Turns s.places s.from s.to c.moved_on-number.result unread s.out s.at one.new.places one.new.out one.result) = let s = c.loop-out in
    let one = c.list_one-one in
    subst
    (λ (l : List ℕ).
    Turns s.places s.from s.to c.moved_on-number.result l s.out s.at one.new.places one.new.out one.result)
    (unread_is c.args.input.now s.taken)
    one.ensures in
    let numbered : (c.moved_on-number.result ≡ past c.args.numbering c.loop-out.invariant.given) = c.moved_on-number.ensures ∙ now_is c.loop-out.invariant in
    let enough : (let s = c.loop-out in room_for c.args.numbering ≤ length s.out - s.at) = omega (arith, c.loop-out-test.true, c.room_for-room.ensures) in
    less c.loop-out.invariant numbered enough turn (sym c.asks_for_more.ensures ∙ c.if-asks_for_more.false)

pub loop-out-preserved : goal.loop-out-preserved
loop-out-preserved c =
    let turn : (let s = c.loop-out in
    let unread = drop s.taken c.args.input.now in let one = c.list_one-one in
    Turns s.places s.from s.to c.moved_on-number.result unread s.out s.at one.new.places one.new.out one.result) = let s = c.loop-out in
    let one = c.list_one-one in
    subst
    (λ (l : List ℕ).
    Turns s.places s.from s.to c.moved_on-number.result l s.out s.at one.new.places one.new.out one.result)
    (unread_is c.args.input.now s.taken)
    one.ensures in
    let numbered : (c.moved_on-number.result ≡ past c.args.numbering c.loop-out.invariant.given) = c.moved_on-number.ensures ∙ now_is c.loop-out.invariant in
    let enough : (let s = c.loop-out in room_for c.args.numbering ≤ length s.out - s.at) = omega (arith, c.loop-out-test.true, c.room_for-room.ensures) in
    again c.loop-out.invariant numbered enough turn (sym c.asks_for_more.ensures ∙ c.if-asks_for_more.false)

pub overflow_sub-to-2 : goal.overflow_sub-to-2
overflow_sub-to-2 c =
    let s = c.loop-out in (span_bounds (length s.places) s.from s.to (is_span_lem s.invariant)).1.0

pub moved_on-requires : goal.moved_on-requires
moved_on-requires c =
    reaches c.loop-out.invariant c.requires.1

pub shape_of-places : goal.shape_of-places
shape_of-places c =
    c.loop-out.invariant.going.size

pub shape_of-out : goal.shape_of-out
shape_of-out c =
    c.loop-out.invariant.out_size

pub returns : goal.returns
returns c =
    full c.loop-out.invariant (c.moved_on.ensures ∙ now_is c.loop-out.invariant) (omega (arith, c.loop-out-test.false, c.room_for-room.ensures))
