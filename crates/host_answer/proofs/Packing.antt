-- The eight bytes of a packed answer, where each field is a byte.
-- Assumes nothing.
use mathlib.Core.Path.{◌≡◌, ap, ap₂, ◌∙◌}
use mathlib.Core.List.{List, [], ◌∷◌}
use Prim.Native.Nat.{ℕ, suc, ◌+◌, ◌<◌}
use native.Mathlib.Nat.{add-mul-mod_self_left, mod-eq_of_lt, add-mul-div_left, div-eq_of_lt, zero-add}
use native.Mathlib.Omega.{arith}
use lib.Dec.{lit<}
use Rattle.host_answer.specs.declared.answer.HostAnswer.{HostAnswer}
use Rattle.host_answer.specs.Answer.{eight_bytes, lowest_first, packed}
use Rattle.host_answer.specs.Seen.{unpacked}

unpack_cons : (k b : ℕ) (bs : List ℕ) → b < 256 → unpacked (suc k) (lowest_first (b ∷ bs)) ≡ b ∷ unpacked k (lowest_first bs)
unfolding unpacked lowest_first
unpack_cons k b bs small =
    ap₂ (λ (x y : ℕ). x ∷ unpacked k y)
    (add-mul-mod_self_left b 256 (lowest_first bs) ∙ mod-eq_of_lt small)
    (add-mul-div_left b (lowest_first bs) (omega arith) ∙ ap (λ (x : ℕ). x + lowest_first bs) (div-eq_of_lt small) ∙ zero-add (lowest_first bs))

pub record Whole (t : HostAnswer) : Type 0 where
  pub number : t.number < 256
  pub taken : t.taken < 256
  pub in_state : t.in_state < 256
  pub at : t.at < 256
  pub len : t.len < 256
  pub first : t.first < 256
  pub second : t.second < 256

pub unpack : (t : HostAnswer) → Whole t → unpacked 8 (packed t) ≡ eight_bytes t
unfolding unpacked
unpack t w =
    unpack_cons 7 t.number _ w.number
    ∙ ap (◌∷◌ t.number) (unpack_cons 6 t.taken _ w.taken
    ∙ ap (◌∷◌ t.taken) (unpack_cons 5 t.in_state _ w.in_state
    ∙ ap (◌∷◌ t.in_state) (unpack_cons 4 t.at _ w.at
    ∙ ap (◌∷◌ t.at) (unpack_cons 3 t.len _ w.len
    ∙ ap (◌∷◌ t.len) (unpack_cons 2 t.first _ w.first
    ∙ ap (◌∷◌ t.first) (unpack_cons 1 t.second _ w.second
    ∙ ap (◌∷◌ t.second) (unpack_cons 0 0 [] (lit< tt))))))))
