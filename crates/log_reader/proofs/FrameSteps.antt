-- One byte of a frame, over the places that hold those before it.
-- Assumes nothing.
use Rattle.std.specs.Prelude.{Ok, Err}
use mathlib.Core.Path.{◌≡◌, refl, sym, ap, ap₂, ◌∙◌}
use mathlib.Core.Bool.{Bool, true, false, ◌&&◌}
use mathlib.Core.List.{List, [], ◌∷◌, ◌++◌}
use Prim.Native.Nat.{ℕ, zero, suc, ◌+◌, ◌-◌, ◌≤◌, ◌<◌}
use native.Mathlib.Numerals.{add-one}
use native.Mathlib.Omega.{arith}
use borrow.Author.Tests.{ltb-true, leb-true, eqb-true, eq-eqb, ne_eqb}
use lib.Dec.{ltb, leb, eqb, lit<}
use lib.ListN.{length, get_or, take, drop, set, length-set}
use lib.Seq.{length-take-le, get_or-take, take-take, take-suc-set, get_or-set_same, get_or-set_other}
use Rattle.base.specs.Choice.{when◌then◌else◌}
use Rattle.base.proofs.Tests.{by_test}
use Rattle.base.proofs.Parts.{drop_take}
use Rattle.refusals.specs.declared.Refusal.{Refusal}
use Rattle.refusals.specs.declared.Refusal.TheVariants.{InvalidFrame}
use Rattle.crc.specs.declared.Mismatch.{Mismatch}
use Rattle.crc.specs.Check.{check_of}
use Rattle.crc.specs.Remainder.{remainder}
use Rattle.crc.specs.Check.{Check}
use Rattle.packets.specs.Listed.{listed}
use Rattle.reading.specs.Answer.{covered, carried}
use Rattle.reading.specs.Reading.{limit, passes}
use Rattle.kit_log.specs.Reading.{frame, on, fine, feed_frame}
use Rattle.log_reader.specs.State.{held_fine, is_state}
use Rattle.log_reader.specs.Parts.{may_follow, LastByte, FedFrame}
use Rattle.log_reader.specs.declared.Reader.TheVariants.{Frame, Refused}
use Rattle.log_reader.specs.declared.Turn.{Turn}
use Rattle.log_reader.specs.declared.Turn.TheVariants as turn
use Rattle.kit_log.proofs.Agrees.{feed_part, feed_whole, feed_bad}
use Rattle.kit_log.proofs.Frames.{Fine, fine_says, says_fine}
use Rattle.log_reader.proofs.Readers.{of_logs_10, state_held, stands_refused, state_room, state_standing}

-- ---- a frame that is begun

-- the first two bytes, as far as they have come, are those of a frame of n
record Two (p : List ℕ) (n k : ℕ) : Type 0 where
  address : 1 ≤ k → listed (get_or p 0 0) ≡ true
  second : 2 ≤ k → get_or p 1 0 + 2 ≡ n

pub record Begun (p : List ℕ) (n k : ℕ) : Type 0 where
  pub room : limit ≤ length p
  pub low : 4 ≤ n
  pub high : n ≤ limit
  pub short : k < n
  pub held : held_fine n p k ≡ true

standing_says : (p : List ℕ) (n k : ℕ) (b₁ b₂ b₃ : Bool) → leb 4 n ≡ b₁ → leb n limit ≡ b₂ → ltb k n ≡ b₃ → limit ≤ length p
    → (when b₁ then when b₂ then when b₃ then held_fine n p k else false else false else false) ≡ true → Begun p n k
standing_says p n k true true true e₁ e₂ e₃ room q = record { room = room; low = leb-true _ _ e₁; high = leb-true _ _ e₂; short = ltb-true _ _ e₃; held = q }
standing_says p n k true true false e₁ e₂ e₃ room q = absurd (let z : ◌≡◌ {A = ℕ} 0 1 = cc in omega arith)
standing_says p n k true false b₃ e₁ e₂ e₃ room q = absurd (let z : ◌≡◌ {A = ℕ} 0 1 = cc in omega arith)
standing_says p n k false b₂ b₃ e₁ e₂ e₃ room q = absurd (let z : ◌≡◌ {A = ℕ} 0 1 = cc in omega arith)

pub begun : (p : List ℕ) (t n k : ℕ) → is_state p (Frame t n k) ≡ true → Begun p n k
begun p t n k e = standing_says p n k _ _ _ refl refl refl (state_room p (Frame t n k) e) (nested (leb 4 n) (leb n limit) (ltb k n) (held_fine n p k) (state_standing p (Frame t n k) e))
  where
    nested : (b₁ b₂ b₃ b₄ : Bool) → ((b₁ && b₂) && (b₃ && b₄)) ≡ true → (when b₁ then when b₂ then when b₃ then b₄ else false else false else false) ≡ true
    nested true true true b₄ q = q
    nested true true false b₄ q = q
    nested true false b₃ b₄ q = q
    nested false b₂ b₃ b₄ q = q

two_of : (p : List ℕ) (n k : ℕ) → Begun p n k → Two p n k
two_of p n zero b = record { address = λ (h : 1 ≤ 0). absurd (omega arith); second = λ (h : 2 ≤ 0). absurd (omega arith) }
two_of p n (suc k) b =
    let short = b.short in
    let high = b.high in
    let room = b.room in
    let size : length (take (suc k) p) ≡ suc k = length-take-le (suc k) p (omega arith) in
    let held : fine n (take (suc k) p) ≡ true = simp (ne_eqb (suc k) 0 (λ (e : suc k ≡ 0). omega arith)) at b.held in
    let f = fine_says n (take (suc k) p) held in
    record {
      address = λ h. ap listed (sym (get_or-take (suc k) p 0 0 (omega arith))) ∙ f.address;
      second = λ (h : 2 ≤ suc k). ap (λ (x : ℕ). x + 2) (sym (get_or-take (suc k) p 1 0 (omega arith))) ∙ f.second (omega arith);
    }

fine_two : (p : List ℕ) (n k : ℕ) → 1 ≤ k → k ≤ length p → Two p n k → (n ≤ k → passes (take k p) ≡ true) → fine n (take k p) ≡ true
fine_two p n k some room two check =
    let size : length (take k p) ≡ k = length-take-le k p room in
    says_fine n (take k p) record {
      address = ap listed (get_or-take k p 0 0 some) ∙ two.address some;
      second = λ (h : 2 ≤ length (take k p)). ap (λ (x : ℕ). x + 2) (get_or-take k p 1 0 (omega arith)) ∙ two.second (omega arith);
      check = λ h (all : n ≤ length (take k p)). check (omega arith);
    }

-- one byte more
two_more : (p : List ℕ) (n k b : ℕ) → k < length p → Two p n k → may_follow n k b ≡ true → Two (set p k b) n (suc k)
two_more p n zero b room two m =
    record { address = λ _. ap listed (get_or-set_same p 0 b 0 room) ∙ m; second = λ (h : 2 ≤ 1). absurd (omega arith) }
two_more p n (suc zero) b room two m = record {
  address = λ _. ap listed (get_or-set_other p 1 0 b 0 (λ (e : 0 ≡ 1). omega arith)) ∙ two.address (omega arith);
  second = λ _. ap (λ (x : ℕ). x + 2) (get_or-set_same p 1 b 0 room) ∙ eqb-true (b + 2) n m;
}
two_more p n (suc (suc k)) b room two m = record {
  address = λ _. ap listed (get_or-set_other p (suc (suc k)) 0 b 0 (λ (e : 0 ≡ suc (suc k)). omega arith)) ∙ two.address (omega arith);
  second = λ _. ap (λ (x : ℕ). x + 2) (get_or-set_other p (suc (suc k)) 1 b 0 (λ (e : 1 ≡ suc (suc k)). omega arith)) ∙ two.second (omega arith);
}

-- a byte that may not follow
not_fine : (p : List ℕ) (n k b : ℕ) → k < length p → 4 ≤ n → may_follow n k b ≡ false → fine n (take (suc k) (set p k b)) ≡ false
not_fine p n k b room low m =
    by_test (fine n (take (suc k) (set p k b))) (λ f. absurd (against k room m (fine_says n (take (suc k) (set p k b)) f))) (λ f. f)
  where
    differ : ◌≡◌ {A = Bool} true false → ⊥
    differ z = let y : ◌≡◌ {A = ℕ} 0 1 = cc in omega arith

    against : (k : ℕ) → k < length p → may_follow n k b ≡ false → Fine n (take (suc k) (set p k b)) → ⊥
    against zero room m f =
        differ (sym f.address ∙ ap listed (get_or-take 1 (set p 0 b) 0 0 (lit< tt) ∙ get_or-set_same p 0 b 0 room) ∙ m)
    against (suc zero) room m f =
        let size : length (take 2 (set p 1 b)) ≡ 2 = length-take-le 2 (set p 1 b) (omega (arith, length-set p 1 b)) in
        let e : b + 2 ≡ n = ap (λ (x : ℕ). x + 2) (sym (get_or-take 2 (set p 1 b) 1 0 (lit< tt) ∙ get_or-set_same p 1 b 0 room)) ∙ f.second (omega arith) in
        differ (sym (eq-eqb (b + 2) n e) ∙ m)
    against (suc (suc k)) room m f = differ (sym (follows k) ∙ m)
      where
        follows : (k : ℕ) → may_follow n (suc (suc k)) b ≡ true
        follows k = simp (ne_eqb (suc (suc k)) 0 (λ (e : suc (suc k) ≡ 0). omega arith), ne_eqb (suc (suc k)) 1 (λ (e : suc (suc k) ≡ 1). omega arith))

-- ---- what the code says of it

module _ (p : List ℕ) (t n k b : ℕ) (state : Begun p n k) where
  inside : k < length p
  inside = let short = state.short in let high = state.high in let room = state.room in omega arith

  stored : take (suc k) (set p k b) ≡ take k p ++ b ∷ []
  stored = take-suc-set p k b inside

  room_after : limit ≤ length (set p k b)
  room_after = rw length-set state.room

  two_after : may_follow n k b ≡ true → Two (set p k b) n (suc k)
  two_after m = two_more p n k b inside (two_of p n k state) m

  pub frame_refused : may_follow n k b ≡ false → FedFrame p t n (take k p ++ b ∷ []) (set p k b) (turn.On (Refused InvalidFrame))
  frame_refused m = record {
    fed = sym (feed_bad t n (take k p ++ b ∷ []) (ap (fine n) (sym stored) ∙ not_fine p n k b inside state.low m));
    stands = stands_refused (set p k b) InvalidFrame room_after of_logs_10;
    same = length-set p k b;
  }

  pub frame_part : may_follow n k b ≡ true → k + 1 < n → FedFrame p t n (take k p ++ b ∷ []) (set p k b) (turn.On (Frame t n (k + 1)))
  frame_part m more =
      let short : suc k < n = omega arith in
      let fits : suc k ≤ length (set p k b) = omega (arith, inside, length-set p k b) in
      let f : fine n (take (suc k) (set p k b)) ≡ true = fine_two (set p k b) n (suc k) (omega arith) fits (two_after m) (λ (h : n ≤ suc k). absurd (omega arith)) in
      let one : k + 1 ≡ suc k = add-one k in
      let long : length (take k p ++ b ∷ []) ≡ suc k = ap length (sym stored) ∙ length-take-le (suc k) (set p k b) fits in
      record {
        fed = rw one (ap (λ (l : List ℕ). on (frame t n l)) stored ∙ sym (feed_part t n (take k p ++ b ∷ []) (ap (fine n) (sym stored) ∙ f) (omega arith)));
        stands = rw one
            (sym (state_held (set p k b) (Frame t n (suc k)) room_after refl state.low state.high short)
            ∙ simp (ne_eqb (suc k) 0 (λ (e : suc k ≡ 0). omega arith)) f);
        same = length-set p k b;
      }

  pub frame_last : may_follow n k b ≡ true → n ≤ k + 1 → LastByte (set p k b) n b
  frame_last m all =
      let two = two_after m in
      let short = state.short in
      let low = state.low in
      let k_is : n - 1 ≡ k = omega arith in
      record {
        low = low;
        high = state.high;
        room = room_after;
        last = ap (λ (i : ℕ). get_or (set p k b) i 0) k_is ∙ get_or-set_same p k b 0 inside;
        address = two.address (omega arith);
        second = two.second (omega arith);
      }

  pub frame_judged : {r : Turn} → n ≤ k + 1 → FedFrame (set p k b) t n (take n (set p k b)) (set p k b) r → FedFrame p t n (take k p ++ b ∷ []) (set p k b) r
  frame_judged all f =
      let short = state.short in
      let n_is : n ≡ suc k = omega arith in
      let h_is : take n (set p k b) ≡ take k p ++ b ∷ [] = ap (λ (j : ℕ). take j (set p k b)) n_is ∙ stored in
      record { fed = f.fed ∙ ap (feed_frame t n) h_is; stands = f.stands; same = length-set p k b }

-- ---- the last byte

pub right_says : (x y : ℕ) → check_of x y ≡ Ok tt → eqb x y ≡ true
right_says x y e = by_test (eqb x y) (λ t. t) (λ t. absurd (never (simp t at e)))
  where
    never : {r : Mismatch} → ◌≡◌ {A = Check} (Err r) (Ok tt) → ⊥
    never q = cc

pub wrong_says : (x y : ℕ) {r : Mismatch} → check_of x y ≡ Err r → eqb x y ≡ false
wrong_says x y {r} e = by_test (eqb x y) (λ t. absurd (never (simp t at e))) (λ t. t)
  where
    never : ◌≡◌ {A = Check} (Ok tt) (Err r) → ⊥
    never q = cc

module _ (p : List ℕ) (t n b : ℕ) (whole : LastByte p n b) where
  c : List ℕ
  c = take n p

  n_fits : n ≤ length p
  n_fits = let high = whole.high in let room = whole.room in omega arith

  c_long : length c ≡ n
  unfolding c
  c_long = length-take-le n p n_fits

  c_covered : covered c ≡ take (n - 1 - 2) (drop 2 p)
  unfolding c
  c_covered =
      let low = whole.low in
      ap (λ (j : ℕ). drop 2 (take (j - 1) c)) c_long ∙ ap (drop 2) (take-take (n - 1) n p (omega arith)) ∙ drop_take 2 (n - 1) p

  c_carried : carried c ≡ b
  unfolding c
  c_carried =
      let low = whole.low in
      ap (λ (j : ℕ). get_or c (j - 1) 0) c_long ∙ get_or-take n p (n - 1) 0 (omega arith) ∙ whole.last

  passes_is : passes c ≡ eqb (remainder (take (n - 1 - 2) (drop 2 p))) b
  unfolding passes
  passes_is = ap₂ (λ (x : List ℕ) (y : ℕ). eqb (remainder x) y) c_covered c_carried

  fine_is : passes c ≡ true → fine n c ≡ true
  unfolding c
  fine_is q =
      let low = whole.low in
      fine_two p n n (omega arith) n_fits (record { address = λ _. whole.address; second = λ _. whole.second }) (λ _. q)

  fine_not : passes c ≡ false → fine n c ≡ false
  fine_not q =
      by_test (fine n c)
      (λ f. let low = whole.low in let long = c_long in absurd (differ (sym ((fine_says n c f).check (omega arith) (omega arith)) ∙ q))) (λ f. f)
    where
      differ : ◌≡◌ {A = Bool} true false → ⊥
      differ z = let y : ◌≡◌ {A = ℕ} 0 1 = cc in omega arith

  pub judged_right : {r : Check} → r ≡ check_of (remainder (take (n - 1 - 2) (drop 2 p))) b → r ≡ Ok tt → FedFrame p t n (take n p) p (turn.Entry t n)
  unfolding c
  judged_right e q =
      let f = fine_is (passes_is ∙ right_says (remainder (take (n - 1 - 2) (drop 2 p))) b (sym e ∙ q)) in
      let long = c_long in
      record { fed = sym (feed_whole t n (take n p) f (omega arith)); stands = n_fits; same = refl }

  pub judged_wrong : {r : Check} {w : Mismatch} → r ≡ check_of (remainder (take (n - 1 - 2) (drop 2 p))) b → r ≡ Err w
      → FedFrame p t n (take n p) p (turn.On (Refused InvalidFrame))
  unfolding c
  judged_wrong e q =
      let f = fine_not (passes_is ∙ wrong_says (remainder (take (n - 1 - 2) (drop 2 p))) b (sym e ∙ q)) in
      record { fed = sym (feed_bad t n (take n p) f); stands = stands_refused p InvalidFrame whole.room of_logs_10; same = refl }
