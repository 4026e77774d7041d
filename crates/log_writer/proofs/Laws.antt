-- What the writer is for (RULES 16.11, 16.10): a start and then entries make the log of these entries, and nothing else in the buffer changes; it is read
-- as these entries, and accepted; an accepted log written again is that log. And where an entry is refused, and how long one is.
-- Assumes nothing.
use Rattle.std.specs.Prelude.{Ok}
use mathlib.Core.Path.{◌≡◌, refl, sym, ap, ◌∙◌, subst}
use mathlib.Core.List.{List, [], ◌∷◌, ◌++◌, append_assoc, append-nil}
use Prim.Native.Nat.{ℕ, suc, ◌+◌, ◌*◌, ◌≤◌, ◌<◌, ◌/◌}
use native.Mathlib.Nat.{zero-add, div-lt_iff_lt-mul}
use native.Mathlib.Omega.{arith}
use borrow.Author.Tests.{ltb-true, ltb-false}
use lib.Dec.{leb, ltb, lit<}
use lib.ListN.{length, get_or, take, drop, take-append-drop, length-append, length-drop}
use lib.Seq.{drop-drop, take_at}
use Rattle.base.specs.Bytes.{Bytes}
use Rattle.base.specs.Parts.{pasted}
use Rattle.base.proofs.Tests.{by_test}
use Rattle.base.proofs.Parts.{length_pasted, pasted_append, pasted_front}
use Rattle.refusals.specs.Row.{row_of}
use Rattle.refusals.specs.declared.Refusal.TheVariants.{InvalidFrame}
use Rattle.refusals.proofs.Rows.{not_zero}
use Rattle.writing.specs.Writing.{Image, bytes, refused, written_row, write_of}
use Rattle.writing.proofs.Writing.{writes}
use Rattle.writing.proofs.Left.{left, kept}
use Rattle.groups.specs.Groups.{groups}
use Rattle.groups.proofs.Groups.{some_group}
use Rattle.groups.proofs.Steps.{one_long, more_long}
use Rattle.reading.specs.Reading.{limit}
use Rattle.reading.specs.Frame.{Valid}
use Rattle.reading.proofs.Frame.{valid_shape}
use Rattle.kit_log.specs.Entry.{Entry, greatest, Sound, AllSound, entry_bytes, entries_bytes, log_bytes}
use Rattle.kit_log.specs.Reading.{boundary, reading}
use Rattle.kit_log.proofs.Laws.{Accepted, one_more}
use Rattle.kit_log.proofs.Laws as log
use Rattle.log_writer.specs.Writer.{is_frame, entry_image}
use Rattle.log_writer.specs.Run as run
use Rattle.log_writer.specs.Run.{Run}
use Rattle.log_writer.proofs.Frames.{test_valid, valid_test}
use Rattle.log_writer.proofs.Writes.{start_is}

-- ---- WHERE AN ENTRY IS REFUSED WITH 10: where its bytes are not one whole valid frame, and there in any buffer

module _ (t : ℕ) (c : List ℕ) where
  pub image_valid : Valid limit c → entry_image t c ≡ bytes (entry_bytes (record { seconds = t; frame = c }))
  unfolding entry_image
  image_valid v = simp (valid_test c v)

  pub image_invalid : (Valid limit c → ⊥) → entry_image t c ≡ refused InvalidFrame
  unfolding entry_image
  image_invalid none = by_test (is_frame c) (λ e. absurd (none (test_valid c e))) (λ e. simp e)

  pub refused_where : (buffer : List ℕ) → (Valid limit c → ⊥) → write_of (entry_image t c) buffer ≡ (row_of InvalidFrame, buffer)
  unfolding write_of
  refused_where buffer none = ap (λ (i : Image). write_of i buffer) (image_invalid none)

  pub refused_only : (buffer : List ℕ) → (write_of (entry_image t c) buffer).0 ≡ row_of InvalidFrame → Valid limit c → ⊥
  unfolding write_of
  refused_only buffer e v =
      let es = entry_bytes (record { seconds = t; frame = c }) in
      let q = ap (λ (i : Image). (write_of i buffer).0) (sym (image_valid v)) ∙ e in
      by_test (leb (length es) (length buffer))
      (λ f. let z : ◌≡◌ {A = ℕ} 0 10 = ap (λ (l : List ℕ). get_or l 0 0) (simp f at q) in omega arith)
      (λ f. let z : ◌≡◌ {A = ℕ} 5 10 = ap (λ (l : List ℕ). get_or l 0 0) (simp f at q) in omega arith)

-- ---- WHAT A CALL LEFT

-- an entry that was written is sound
valid_written : (t : ℕ) (c buffer : List ℕ) (n : ℕ) {after : List ℕ} → (written_row (Ok n), after) ≡ write_of (entry_image t c) buffer → Valid limit c
unfolding entry_image write_of written_row
valid_written t c buffer n e =
    by_test (is_frame c) (test_valid c)
    (λ f. absurd (not_zero InvalidFrame (sym (ap (λ (x : List ℕ × List ℕ). x.0) (simp f at e)))))

-- bytes put at the front of what stands behind a place are put at that place
put_behind : (d : List ℕ) (at : ℕ) (bs : List ℕ) → take at d ++ pasted (drop at d) 0 bs ≡ pasted d at bs
unfolding pasted
put_behind d at bs =
    ap (λ (l : List ℕ). take at d ++ l) (pasted_front (drop at d) bs ∙ ap (λ (l : List ℕ). bs ++ l) (drop-drop (length bs) at d))
    ∙ sym (append_assoc (take at d) bs (drop (at + length bs) d))

-- ---- A START AND THEN ENTRIES MAKE THE LOG OF THESE ENTRIES

sound_more : (es : List Entry) {e : Entry} → AllSound es → Sound e → AllSound (es ++ e ∷ [])
sound_more [] all sound = (sound, tt)
sound_more (x ∷ es) all sound = (all.0, sound_more es all.1 sound)

-- the buffer is as it was but for the log at its front
pub record Logged (buffer : List ℕ) (es : List Entry) (at : ℕ) (now : List ℕ) : Type 0 where
  pub sound : AllSound es
  pub size : at ≡ length (log_bytes es)
  pub room : at ≤ length buffer
  pub content : now ≡ pasted buffer 0 (log_bytes es)

pub logged : {buffer : List ℕ} {es : List Entry} {at : ℕ} {now : List ℕ} → Run buffer es at now → Logged buffer es at now
logged {buffer} (run.start n e) =
    let l = left (log_bytes []) buffer n e in
    record { sound = tt; size = l.count; room = omega (arith, l.count, l.room); content = l.content }
logged {buffer} (run.entry {es} {at} {now} {after} e n small r call) =
    let before = logged r in
    let valid = valid_written e.seconds e.frame (drop at now) n call in
    let bs = entry_bytes e in
    let xs = log_bytes es in
    let l = left bs (drop at now) n (call ∙ ap (λ (i : Image). write_of i (drop at now)) (image_valid e.seconds e.frame valid)) in
    let long : length now ≡ length buffer = ap length before.content ∙ length_pasted buffer 0 xs (omega (arith, before.size, before.room)) in
    let more : log_bytes (es ++ e ∷ []) ≡ xs ++ bs = one_more es e in
    record {
      sound = sound_more es before.sound (record { small = small; valid = valid });
      size = omega (arith, before.size, l.count, length-append xs bs, ap length more);
      room = omega (arith, l.count, l.room, length-drop at now, before.room);
      content =
          ap (λ (s : List ℕ). take at now ++ s) l.content
          ∙ put_behind now at bs
          ∙ ap (λ (s : List ℕ). pasted s at bs) before.content
          ∙ ap (λ (k : ℕ). pasted (pasted buffer 0 xs) k bs) (sym (zero-add at))
          ∙ pasted_append buffer 0 at xs bs (sym before.size) (omega (arith, before.room))
          ∙ ap (pasted buffer 0) (sym more);
    }
logged {buffer} (run.refused {es} {at} {now} {after} e why r call) =
    let before = logged r in
    let same : after ≡ drop at now = kept (entry_image e.seconds e.frame) why call in
    record {
      sound = before.sound;
      size = before.size;
      room = before.room;
      content = ap (λ (s : List ℕ). take at now ++ s) same ∙ take-append-drop at now ∙ before.content;
    }

module _ {buffer : List ℕ} {es : List Entry} {at : ℕ} {now : List ℕ} (r : Run buffer es at now) where
  -- the bytes that were written
  pub written_log : take at now ≡ log_bytes es
  written_log =
      let l = logged r in
      ap (take at) (l.content ∙ pasted_front buffer (log_bytes es)) ∙ take_at (log_bytes es) (drop (length (log_bytes es)) buffer) at (sym l.size)

  -- they are read as the entries, and accepted
  pub written_read : reading (take at now) ≡ record { entries = es; state = boundary; taken = at }
  written_read =
      let l = logged r in
      ap reading written_log ∙ log.written_read es l.sound
      ∙ ap (λ (n : ℕ). record { entries = es; state = boundary; taken = n }) (sym l.size)

  pub written_accepted : Accepted (take at now)
  written_accepted = rw written_log (log.written_accepted es (logged r).sound)

-- ---- AN ACCEPTED LOG WRITTEN AGAIN IS THAT LOG

-- calls that write these entries
pub record Calls (buffer : List ℕ) (es : List Entry) : Type 0 where
  pub at : ℕ
  pub now : List ℕ
  pub run : Run buffer es at now

module _ (buffer : List ℕ) where
  -- further entries, where there is room for them
  go_on : (fs : List Entry) {es : List Entry} → Calls buffer es → AllSound fs → length (log_bytes es) + length (entries_bytes fs) ≤ length buffer
      → Calls buffer (es ++ fs)
  unfolding entries_bytes
  go_on [] {es} c sound room = rw append-nil c
  go_on (f ∷ fs) {es} c sound room =
      let l = logged c.run in
      let bs = entry_bytes f in
      let xs = log_bytes es in
      let both = length-append bs (entries_bytes fs) in
      let long : length c.now ≡ length buffer = ap length l.content ∙ length_pasted buffer 0 xs (omega (arith, l.size, l.room)) in
      let rest = drop c.at c.now in
      let fits : length bs ≤ length rest = omega (arith, length-drop c.at c.now, l.size) in
      let call = writes bs rest (length bs) refl fits ∙ ap (λ (i : Image). write_of i rest) (sym (image_valid f.seconds f.frame sound.0.valid)) in
      let more : Calls buffer (es ++ f ∷ []) = record {
        at = c.at + length bs;
        now = take c.at c.now ++ pasted rest 0 bs;
        run = run.entry f (length bs) sound.0.small c.run call;
      } in
      let after : length (log_bytes (es ++ f ∷ [])) + length (entries_bytes fs) ≤ length buffer = omega (arith, length-append xs bs, ap length (one_more es f)) in
      subst (Calls buffer) (append_assoc es (f ∷ []) fs) (go_on fs more sound.1 after)

  -- where there is room for a log, it can be written
  pub writable : (es : List Entry) → AllSound es → length (log_bytes es) ≤ length buffer → Calls buffer es
  unfolding log_bytes
  writable es sound room =
      let one = length-append (groups 1) (entries_bytes es) in
      let front : length (log_bytes []) ≡ length (groups 1) = ap length start_is in
      let first : Calls buffer [] = record {
        at = length (log_bytes []);
        now = pasted buffer 0 (log_bytes []);
        run = run.start (length (log_bytes [])) (writes (log_bytes []) buffer (length (log_bytes [])) refl (omega arith));
      } in
      go_on es first sound (omega arith)

  module _ (s : List ℕ) (all : Bytes s) (ok : Accepted s) where
    -- the entries of an accepted log can be written where there is room for it
    pub again : length s ≤ length buffer → Calls buffer (reading s).entries
    again room =
        let w = log.accepted_written s all ok in
        writable (reading s).entries w.1 (subst (λ (l : List ℕ). length l ≤ length buffer) w.0 room)

    -- .. and are that log, byte for byte, with every byte behind it kept
    pub accepted_written : {at : ℕ} {now : List ℕ} → Run buffer (reading s).entries at now → (at ≡ length s) × (now ≡ pasted buffer 0 s)
    accepted_written r =
        let l = logged r in
        let is = sym (log.accepted_written s all ok).0 in
        (l.size ∙ ap length is, l.content ∙ ap (pasted buffer 0) is)

-- ---- HOW LONG AN ENTRY IS: 6 to 70 bytes

below_128 : (n : ℕ) → n < 128 → length (groups n) ≤ 1
below_128 n h = omega (arith, one_long n h)

-- one group more for each 128 times as many numbers
one_group_more : (m k : ℕ) → ((n : ℕ) → n < m → length (groups n) ≤ k) → (n : ℕ) → n < m * 128 → length (groups n) ≤ suc k
one_group_more m k few n h =
    by_test (ltb n 128) (λ t. omega (arith, one_long n (ltb-true n 128 t)))
    (λ t.
    let rest : n / 128 < m = (div-lt_iff_lt-mul {k = 128} {x = n} {y = m} (lit< tt)).1 h in
    omega (arith, more_long n (ltb-false n 128 t), few (n / 128) rest))

pub five_groups : (n : ℕ) → n ≤ greatest → length (groups n) ≤ 5
five_groups n h =
    one_group_more 268435456 4 (one_group_more 2097152 3 (one_group_more 16384 2 (one_group_more 128 1 below_128))) n (omega arith)

pub entry_size : (e : Entry) → Sound e → (6 ≤ length (entry_bytes e)) × (length (entry_bytes e) ≤ 70)
unfolding entry_bytes
entry_size e sound =
    let c = e.frame in
    let shape = valid_shape limit c sound.valid in
    let one = one_long (length c) (omega (arith, shape.most)) in
    let size : length (groups e.seconds ++ (groups (length c) ++ c)) ≡ length (groups e.seconds) + (1 + length c) =
    length-append (groups e.seconds) (groups (length c) ++ c) ∙ omega (arith, length-append (groups (length c)) c) in
    (omega (arith, some_group e.seconds, shape.four), omega (arith, five_groups e.seconds sound.small, shape.most))
