-- A struct of plain data behind a reference.
--     opens_plain, closes_plain    a `&κ mut S` is opened, which gives its cell, and closed at what the cell then holds
--     looks_plain, shuts_plain     a `&κ S` is looked into, which gives a share of its cell, and shut again
--     lends_local, local_back      a local that holds an S is lent by `&mut` for a lifetime that is made for a call, and is back at the last value
-- Assumes `Logic`.
use Prim.Native.Nat.{ℕ}
use mathlib.Core.List.{List, [], ◌∷◌}
use seplogic.Ra.Ura.{Ura}
use base.Fraction.{full_share}
use mir.Syntax.{Lifetime}
use mir.Val.{Val, vptr}
use base.Stored.{Gv}
use base.Fml.{GName, Lft, Share, fsep, fat, flft, fobs, fauth, fres, fbor, fobor, flent}
use types.Logic.{Logic}
use types.Kit.{Item, Goal, Seq, Step, step, Soaks, ‵, ◌⊛◌, some, later, ◌$◌, move, drop, use1, use3, split, pick, fsplit, fjoin, fpick, fpack, await}
use types.SemTy.{Body}
use types.Tokens.{lft_new, lft_end}
use denote.Laws.{Is, shows}
use denote.Memory.{mem, cell_at, part_at, part_of, hidden_shr}
use denote.Opens.{Shut}
use denote.Ref.{MutBor, MutRef}
use denote.Lend.{lends_ref, ref_back}
use denote.Steps.{opens, closes, looks, shuts, peeks}
use denote.Struct.Steps.{spelt}
use denote.Struct.Laws as LL
use Rattle.by_hand.proofs.Structs.{PlainStruct, row_of, mir_of, val_of, Stands, owns_plain}

-- a reference to the local l
abbrev pub to_local : {X : Type 0} → ℕ → GName → X → MutBor X
to_local l γ h = record { ref_ptr = (l, 0); ghost_name = γ; now = h }

module _ {M : Type 1} {𝓤 : Ura M} {𝓛 : Logic 𝓤} {K : Type 0} {Γ : List (Item 𝓤)} {G : Goal 𝓤 𝓛.H} where
  -- what lies in memory is spelt out, and what it owns is let go: that is made anew where it is wanted
  spells : K → (S : PlainStruct) (q : Share) (h : S.type.D) (vs : List Val) (b o : ℕ) → (Stands S h → Seq K 𝓛 (‵ (cell_at q (row_of S).mir (val_of S h ∷ []) b o) ∷ Γ) G)
      → Seq K 𝓛 (‵ (cell_at q (row_of S).mir vs b o) ∷ ‵ ((row_of S).own_val h vs) ∷ Γ) G
  spells t S q h vs b o k =
      spelt t (row_of S) (Is (row_of S)) (shows 𝓛 (row_of S)) (λ d. val_of S d ∷ []) (LL.tells S.type S.laws) q h vs b o $ move t (1 ∷ []) $ peeks t (row_of S) (Is (row_of S)) (shows 𝓛 (row_of S)) h (val_of S h ∷ []) (λ g. drop t $ k g)

module _ {M : Type 1} {𝓤 : Ura M} {𝓛 : Logic 𝓤} {K : Type 0} {Γ : List (Item 𝓤)} {G : Goal 𝓤 𝓛.H} where
  -- ---- behind a `&mut`
  pub opens_plain : K → Soaks G → (S : PlainStruct) {κ : Lft} {q : Share} {γ : GName} (h : S.type.D) (b o : ℕ)
      → (Stands S h → Seq K 𝓛 (‵ (cell_at full_share (row_of S).mir (val_of S h ∷ []) b o) ∷ ‵ (fobor κ q (Body (mem (row_of S)) b o γ)) ∷ ‵ (fobs γ ((row_of S).coded.code h)) ∷ ‵ (fauth γ ((row_of S).coded.code h)) ∷ Γ) G)
      → Seq K 𝓛 (‵ (fobs γ ((row_of S).coded.code h)) ∷ ‵ (fbor κ (Body (mem (row_of S)) b o γ)) ∷ ‵ (flft κ q) ∷ Γ) G
  opens_plain t z S h b o k = opens t z (row_of S) {h = h} b o (λ vs. spells t S full_share h vs b o k)

  pub closes_plain : K → Soaks G → (S : PlainStruct) {κ : Lft} {q : Share} {γ : GName} {u w : Gv} (h : S.type.D) (v : Val) (b o : ℕ) → Is (row_of S) h (v ∷ [])
      → Step K 𝓛 (‵ (fobs γ ((row_of S).coded.code h)) ∷ ‵ (fbor κ (Body (mem (row_of S)) b o γ)) ∷ ‵ (flft κ q) ∷ Γ) G
      (‵ (cell_at full_share (row_of S).mir (v ∷ []) b o) ∷ ‵ (fobor κ q (Body (mem (row_of S)) b o γ)) ∷ ‵ (fobs γ u) ∷ ‵ (fauth γ w) ∷ Γ) G
  closes_plain t z S h v b o is = step (λ s. owns_plain t S h v is $ move t (1 ∷ 0 ∷ []) $ closes t z (row_of S) h (v ∷ []) b o $ s)

  -- ---- behind a `&`
  pub looks_plain : K → Soaks G → (S : PlainStruct) {κ : Lft} {q : Share} (h : S.type.D) (b o : ℕ)
      → ((q' : Share) → Stands S h → Seq K 𝓛 (‵ (cell_at q' (row_of S).mir (val_of S h ∷ []) b o) ∷ Shut 𝓛 κ q (part_at (row_of S) q' h b o) ∷ ‵ (hidden_shr (row_of S) κ h b o) ∷ Γ) G)
      → Seq K 𝓛 (‵ (hidden_shr (row_of S) κ h b o) ∷ ‵ (flft κ q) ∷ Γ) G
  looks_plain t z S h b o k =
      looks t z (row_of S) (LL.copied S.type S.copy 𝓛).opens h b o (λ q' vs. spells t S q' h vs b o (k q'))

  pub shuts_plain : K → Soaks G → (S : PlainStruct) {κ : Lft} {q : Share} (q' : Share) (h : S.type.D) (b o : ℕ) → Stands S h
      → Step K 𝓛 (‵ (flft κ q) ∷ Γ) G (‵ (cell_at q' (row_of S).mir (val_of S h ∷ []) b o) ∷ Shut 𝓛 κ q (part_at (row_of S) q' h b o) ∷ Γ) G
  shuts_plain t z S q' h b o is = step (λ s. owns_plain t S h (val_of S h) is $ move t (1 ∷ 0 ∷ []) $ shuts t z (row_of S) q' h (val_of S h ∷ []) b o $ s)

  -- ---- a local's cell is what lies in memory, and the other way round
  stores_local : K → (S : PlainStruct) (h : S.type.D) (l : ℕ) → Stands S h → Step K 𝓛 (‵ (part_at (row_of S) full_share h l 0) ∷ Γ) G (‵ (fat full_share (mir_of S) l 0 (val_of S h)) ∷ Γ) G
  unfolding part_of
  stores_local t S h l is =
      step (λ s. use1 𝓛 (‵ (cell_at full_share (row_of S).mir (val_of S h ∷ []) l 0)) (𝓛.laws.at_raw full_share (mir_of S) l 0 (val_of S h)) $
      owns_plain t S h (val_of S h) is $ move t (1 ∷ 0 ∷ []) $ fjoin t $ fpack t (List Val) (λ us. fsep (cell_at full_share (row_of S).mir us l 0) ((row_of S).own_val h us)) (val_of S h ∷ []) $ s)

  loads_local : K → (S : PlainStruct) (h : S.type.D) (l : ℕ) → (Stands S h → Seq K 𝓛 (‵ (fat full_share (mir_of S) l 0 (val_of S h)) ∷ Γ) G) → Seq K 𝓛 (‵ (part_at (row_of S) full_share h l 0) ∷ Γ) G
  unfolding part_of
  loads_local t S h l k =
      fpick t (λ vs. fsplit t $ spells t S full_share h vs l 0 (λ is. use1 𝓛 (‵ (fat full_share (mir_of S) l 0 (val_of S h))) (𝓛.laws.raw_at full_share (mir_of S) l 0 (val_of S h)) $ k is))

module _ {M : Type 1} {𝓤 : Ura M} {𝓛 : Logic 𝓤} {K : Type 0} {Γ : List (Item 𝓤)} {G : Goal 𝓤 𝓛.H} where
  -- ---- a local, lent for a lifetime ν that is made for a call
  pub lends_local : K → Soaks G → (S : PlainStruct) (ℓ : Lifetime) (h : S.type.D) (l : ℕ) → Stands S h
      → ((ν : ℕ) (γ : GName) → Seq K 𝓛 (‵ ((MutRef ℓ (ν ∷ []) (row_of S)).own_val (to_local l γ h) (vptr l 0 ∷ [])) ∷ ‵ (flft (ν ∷ []) full_share) ∷ ‵ (flent (ν ∷ []) (Body (mem (row_of S)) l 0 γ)) ∷ Γ) G)
      → Seq K 𝓛 (‵ (fat full_share (mir_of S) l 0 (val_of S h)) ∷ Γ) G
  lends_local t z S ℓ h l is k =
      stores_local t S h l is $ lft_new t z (λ ν. move t (1 ∷ []) $
      use1 𝓛 (later (some (λ (γ : GName). ‵ ((MutRef ℓ (ν ∷ []) (row_of S)).own_val (to_local l γ h) (vptr l 0 ∷ [])) ⊛ ‵ (flent (ν ∷ []) (Body (mem (row_of S)) l 0 γ))))) (lends_ref 𝓛 (row_of S) ℓ (ν ∷ []) h l 0) $
      await t z $ pick t (λ γ. split t $ move t (0 ∷ 2 ∷ []) $ k ν γ))

  pub local_back : K → Soaks G → (S : PlainStruct) {ν : ℕ} {γ : GName} (h : S.type.D) (l : ℕ) → (Stands S h → Seq K 𝓛 (‵ (fat full_share (mir_of S) l 0 (val_of S h)) ∷ Γ) G)
      → Seq K 𝓛 (‵ (flft (ν ∷ []) full_share) ∷ ‵ (flent (ν ∷ []) (Body (mem (row_of S)) l 0 γ)) ∷ ‵ (fres γ ((row_of S).coded.code h)) ∷ Γ) G
  local_back t z S {ν} {γ} h l k = lft_end t z $ use3 𝓛 (later (‵ (part_at (row_of S) full_share h l 0))) (ref_back 𝓛 (row_of S) (ν ∷ []) γ h l 0) $ await t z $ loads_local t S h l k
