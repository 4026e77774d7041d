-- One walk for every function of the form
--     fn f(p: &mut P, input: &[u8]) -> R { let out = g(*p, input); *p = out.first; out.second }
-- where g is the form by value (`Forms.antt`): φ is what g promises of its result, and ψ what f promises.
--     body         f's MIR
--     in_place     f meets its contract, if g meets its own and φ gives ψ
-- The borrow is opened, the struct is copied out of its cell whole, g is called on the copy and the slice, the new struct is copied into a local and
-- from there stored over the old one, and the borrow is closed at it. The slice is Copy: one copy goes to the callee, and one is kept for the exit.
-- Assumes nothing.
use mathlib.Core.Path.{refl, ◌∙◌, subst}
use Prim.Native.Nat.{ℕ}
use mathlib.Core.List.{[], ◌∷◌, List}
use lib.Dec.{T as Holds}
use lib.ListN.{length}
use seplogic.Ra.Ura.{Ura}
use base.Fraction.{full_share}
use mir.Syntax.{Callee, Fn, Ty, named, mut, imm, w8, ty_int, ty_ref, local, value_local, place, deref, field, copy, rv_opd, assign, call, seq, return}
use mir.Val.{Val, WT, has_ty, vptr}
use base.Logic.{SProp, ent, sep, emp, via, fst∗, id⊢}
use base.Fml.{GName, Lft, Share, Fml, ftrue, fat, flft, fobs, fbor}
use prog.Model.{Model}
use prog.Routine.{Env}
use prog.Wp.{Calls, Loops, WpFn, Closed}
use types.Logic.{Logic, sem}
use contract.Running.{Running, tables}
use types.Kit.{‵, raw, ◌⊛◌, ⋆, ◌$◌, ◌∵◌, !, qed, by, move, keep, drop, use1, use2, split, join, rewrite, fsplit, fsplit3, fjoin, fjoin3, feq_i, suffices, frame, done}
use types.Run.{look, look_raw, init, store_raw, forget, stop, hop, fld, from, load, and_then, no_more, of_opd, assigns, land, returns, enter, alloc1, alloc0, params1, pass1, pass0, free1, free0}
use types.Part.{whole, sub, look_in}
use types.SemTy.{Body}
use sound.WpLaws.{FmC}
use denote.RattleType.{owns}
use denote.Laws.{Is}
use denote.Memory.{mem, pointee}
use denote.Builtin.{u8}
use denote.Plain.{uint_row_laws}
use denote.Ref.{MutBor, MutRef, mut_vals, mut_Tells}
use denote.Slice.{slice_ty, shr_slice_vals, ShrSlice, Room, shr_slice_Tells, shr_slice_copy}
use denote.Signature.{plain}
use denote.Steps.{nothing}
use denote.Triple.Clauses.{closing}
use denote.Triple.Statement.{Triple}
use denote.Triple.Call.{calls_at}
use denote.Triple.Entry.{on_entry, alive}
use denote.Triple.Spec.{Meets}
use denote.Triple.Walked.{says, Stays, stay_ref, stay_none_slice, walk_of, Goes-ref, Goes-none_slice, ends_at, walked}
use denote.Exit.{yes}
use Rattle.by_hand.proofs.Structs.{PlainStruct, row_of, mir_of, val_of, Stands, val_is, stands, typed, owns_plain}
use Rattle.by_hand.proofs.Results as result
use Rattle.by_hand.proofs.Results.{Plain, owns_result}
use Rattle.by_hand.proofs.Borrows.{opens_plain, closes_plain}
use Rattle.by_hand.proofs.Calls.{returned, proved}
use Rattle.by_hand.proofs.Forms.{Slice, slice_at, Pair, pair_mir, lent_ended, lent_clauses, value_ended, value_clauses, ByValue}

module _ (S P : PlainStruct) (R : Plain) (two : Pair S P R) where
  abbrev pub body : Callee → Fn
  body g = record {
    lifetimes = 2;
    outlives = [];
    ty_params = [];
    givens = 0;
    params = 2;
    locals = local (result.mir_of R) value_local ∷ local (ty_ref (named 0) mut (pointee (row_of P).written)) value_local
        ∷ local (slice_ty (ty_ref (named 1) imm (ty_int w8))) value_local ∷ local (pair_mir S P R two) value_local ∷ local (mir_of P) value_local
        ∷ local (mir_of P) value_local ∷ [];
    body = seq (assign (place 4 []) (rv_opd (copy (place 1 (deref (mir_of P) ∷ [])))))
        (seq (call g (copy (place 4 []) ∷ copy (place 2 []) ∷ []) (place 3 []))
        (seq (assign (place 5 []) (rv_opd (copy (place 3 (field 0 ∷ [])))))
        (seq (assign (place 1 (deref (mir_of P) ∷ [])) (rv_opd (copy (place 5 []))))
        (seq (assign (place 0 []) (rv_opd (copy (place 3 (field 1 ∷ []))))) return))));
  }

abbrev stayed : (P : PlainStruct) (R : Plain) → Stays (lent_ended P R).signature.params (lent_ended P R).kept
stayed P R = (stay_ref (0 ∷ []) tt (plain (λ _. row_of P)), (stay_none_slice (1 ∷ []) tt (plain (λ _. u8)) yes, tt))

module _ (S P : PlainStruct) (R : Plain) (two : Pair S P R) (φ : P.type.D → List ℕ → S.type.D → Type 0)
    (ψ : P.type.D → List ℕ → P.type.D → R.row.Denot → Type 0)
    (link : (h : P.type.D) (s : List ℕ) (r : S.type.D) → φ h s r → ψ h s (two.first r) (two.second r)) where
  module _ {M : Type 1} {𝓤 : Ura M} (𝓛 : Logic 𝓤) (κ κ' : Lft) (q q' : Share) (b o : ℕ) (γ : GName) (h : P.type.D) (s : Slice) where
    open 𝓛 use {H, A}

    abbrev x : MutBor P.type.D × (Slice × Unit {0})
    x = (record { ref_ptr = (b, o); ghost_name = γ; now = h }, (s, tt))

    abbrev at : List Val × (List Val × Unit {0})
    at = (vptr b o ∷ [], (slice_at s ∷ [], tt))

    abbrev Input : Fml
    Input = (ShrSlice (named 1) κ' u8).own_val s (slice_at s ∷ [])

    abbrev Post : Val → SProp 𝓤
    Post = (walk_of 𝓛 (lent_ended P R) (stayed P R) (lent_clauses P R ψ 𝓤)).post (((κ, (κ', tt)), (q, (q', tt)), tt, x, at), tt)

    exits : (r : S.type.D) → φ h s.now r → result.Stands R (two.second r)
        → ent 𝓤 (⋆ 𝓛 (‵ (fobs γ ((row_of P).coded.code (two.first r))) ∷ ‵ (fbor κ (Body (mem (row_of P)) b o γ)) ∷ ‵ (flft κ q) ∷ raw (alive 𝓛 (value_ended S P).signature (κ', tt) (q', tt)) ∷ ‵ Input ∷ [])) (Post (R.val (two.second r)))
    exits r e is =
        qed 𝓛 (‵ (fobs γ ((row_of P).coded.code (two.first r))) ∷ ‵ (fbor κ (Body (mem (row_of P)) b o γ)) ∷ ‵ (flft κ q) ∷ raw (alive 𝓛 (value_ended S P).signature (κ', tt) (q', tt)) ∷ ‵ Input ∷ []) ∵
        suffices ! _ (ends_at 𝓛 (lent_ended P R) (stayed P R) (lent_clauses P R ψ 𝓤) (((κ, (κ', tt)), (q, (q', tt)), tt, x, at), tt) (R.val (two.second r)) (two.second r) (two.first r, (tt, tt)) (tt, (tt, tt))) $
        says ! (link h s.now r e) $ move ! (2 ∷ 3 ∷ []) $ join ! $ frame ! $
        -- [obs; the borrow; Input]
        nothing ! $ move ! (3 ∷ 0 ∷ []) $ fjoin ! $ feq_i ! (List Val) (vptr b o ∷ []) (vptr b o ∷ []) refl $ move ! (0 ∷ 2 ∷ 3 ∷ []) $ fjoin3 ! $ fjoin ! $
        owns_result ! R (two.second r) _ is $ move ! (1 ∷ 0 ∷ []) $ done !

    -- what g's triple binds outside, and that the caller has what it asks
    abbrev to_g : (ByValue S P φ 𝓤 𝓛).Ghost
    to_g = (((κ', tt), (q', tt), tt, (h, (s, tt)), (val_of P h ∷ [], (slice_at s ∷ [], tt))), tt)

    asked : Stands P h → ent 𝓤 (sep 𝓤 (sep 𝓤 (A.lft κ' q') (sem 𝓛 ftrue)) (sem 𝓛 Input)) ((ByValue S P φ 𝓤 𝓛).pre to_g)
    asked g = qed 𝓛 ((‵ (flft κ' q') ⊛ ‵ ftrue) ∷ ‵ Input ∷ []) ∵ nothing ! $ move ! (2 ∷ 0 ∷ []) $ fjoin ! $ owns_plain ! P h _ g $ fjoin ! $ move ! (1 ∷ 0 ∷ []) $ join ! $ frame ! $ done !

    -- the machine value of what g returned has S's MIR type, written out
    out_typed : (r : S.type.D) (v : Val) → Is (row_of S) r (v ∷ []) → Holds (has_ty (pair_mir S P R two) v) × WT v
    out_typed r v is = subst (λ (σ : Ty). Holds (has_ty σ v) × WT v) two.mir_is (typed S 𝓛 r v is)

    module _ (C : Calls 𝓤 H) (Λ : Loops 𝓤 H) (fm : FmC 𝓤 H 𝓛.laws C) (g : Callee) (known : Triple 𝓤 (C g) (ByValue S P φ 𝓤 𝓛)) where
      walk : Room u8 (length s.now) → ent 𝓤 (on_entry 𝓛 (lent_ended P R).signature (κ, (κ', tt)) (q, (q', tt)) x at) (WpFn 𝓤 H C Λ (body S P R two g) (vptr b o ∷ slice_at s ∷ []) Post)
      walk room =
          qed 𝓛 ((‵ (flft κ q) ⊛ ‵ (flft κ' q') ⊛ ‵ ftrue) ∷ ‵ (owns (MutRef (named 0) κ (row_of P) ∷ ShrSlice (named 1) κ' u8 ∷ []) x at) ∷ []) ∵ enter ! C Λ (body S P R two g) (vptr b o ∷ slice_at s ∷ []) _ $
          alloc1 ! (λ l₀. alloc1 ! (λ l₁. alloc1 ! (λ l₂. alloc1 ! (λ l₃. alloc1 ! (λ l₄. alloc1 ! (λ l₅. alloc0 ! $ params1 ! $ pass1 ! (init ! 8 refl (tt, tt)) $ pass1 ! (init ! 6 refl (tt, (tt, (record { fits = room.0 }, tt)))) $ pass0 ! $
          -- the slice is had twice, and the borrow is opened
          move ! (13 ∷ []) $ fsplit ! $ move ! (1 ∷ []) $ fsplit ! $ use1 𝓛 (‵ Input ⊛ ‵ Input) ((shr_slice_copy 𝓛 (named 1) κ' u8 (uint_row_laws w8)).twice s (slice_at s ∷ [])) $ split ! $ move ! (3 ∷ []) $ fsplit3 ! $ drop ! $
          -- [obs; the borrow; Input; Input; true; room for _5; …; room for _4; …; room for _3; …; _2; …; _1; …; _0; …; the tokens]
          move ! (17 ∷ []) $ split ! $ move ! (2 ∷ 3 ∷ 0 ∷ []) $ opens_plain ! tt P h b o (λ st.
          -- [the struct's cell; the open borrow; obs; auth; the slice's token; Input; Input; true; room for _5; …; room for _4; …; room for _3; …; _2; …; _1; …; room for _0; …]
          assigns ! (of_opd ! (load ! (from ! (hop ! (look ! 16 refl) (stop !))) (look_raw ! 0 refl))) (from ! (stop !)) (init ! 10 refl (typed P 𝓛 h _ st)) $
          move ! (4 ∷ 5 ∷ []) $ use2 𝓛 (raw ((ByValue S P φ 𝓤 𝓛).pre to_g)) (asked st) $
          -- [what g asks; the struct's cell; the open borrow; obs; auth; Input; true; room for _5; …; _4; …; room for _3; …; _2; …; _1; …; room for _0; …]
          calls_at ! fm (ByValue S P φ 𝓤 𝓛) known to_g (and_then ! (load ! (from ! (stop !)) (look ! 9 refl)) (and_then ! (load ! (from ! (stop !)) (look ! 13 refl)) (no_more !))) (λ v.
          returned ! tt (value_ended S P) (value_clauses S P φ 𝓤) to_g v (λ r ws. φ h s.now r) (λ r ws. id⊢ 𝓤 _) (λ r ws is e. drop ! $ drop ! $
          -- [the slice's token; the struct's cell; the open borrow; obs; auth; Input; true; room for _5; …; _4; …; room for _3; …; _2; …; _1; …; room for _0; …]
          land ! (from ! (stop !)) (init ! 11 refl (out_typed r v is)) $ rewrite ! 11 (λ (u : Val). ‵ (fat full_share (pair_mir S P R two) l₃ 0 u)) (val_is S r v is ∙ two.val_is r) refl $
          assigns ! (of_opd ! (load ! (from ! (fld ! refl (stop !))) (look_in ! 11 (sub ! 0 refl (whole !))))) (from ! (stop !)) (init ! 7 refl (typed P 𝓛 (two.first r) _ (two.first_stands r (stands S r v is)))) $
          assigns ! (of_opd ! (load ! (from ! (stop !)) (look ! 7 refl))) (from ! (hop ! (look ! 15 refl) (stop !))) (store_raw ! 1 refl (typed P 𝓛 (two.first r) _ (two.first_stands r (stands S r v is)))) $
          assigns ! (of_opd ! (load ! (from ! (fld ! refl (stop !))) (look_in ! 11 (sub ! 1 refl (whole !))))) (from ! (stop !)) (init ! 17 refl (R.typed 𝓛 (two.second r) _ (two.second_stands r (stands S r v is)))) $
          -- the borrow is closed at the new struct
          move ! (1 ∷ 2 ∷ 3 ∷ 4 ∷ []) $ closes_plain ! tt P (two.first r) _ b o (two.first_stands r (stands S r v is)) $
          -- [obs; the borrow; the struct's token; the slice's token; Input; true; _5; …; _4; …; _3; …; _2; …; _1; …; _0; …]
          returns ! (look ! 16 refl) $ forget ! 6 refl $ forget ! 8 refl $ forget ! 10 refl $ forget ! 12 refl $ forget ! 14 refl $ forget ! 16 refl $
          move ! (16 ∷ 17 ∷ []) $ free1 ! $ move ! (14 ∷ 15 ∷ []) $ free1 ! $ move ! (12 ∷ 13 ∷ []) $ free1 ! $ move ! (10 ∷ 11 ∷ []) $ free1 ! $ move ! (8 ∷ 9 ∷ []) $ free1 ! $ move ! (6 ∷ 7 ∷ []) $ free1 ! $ free0 ! $
          keep ! (0 ∷ 1 ∷ 2 ∷ 3 ∷ 4 ∷ []) $ by ! (exits r e (two.second_stands r (stands S r v is))))))))))))

  module _ {M : Type 1} {𝓤 : Ura M} (𝓛 : Logic 𝓤) (𝓜 : Model 𝓤 𝓛.H) (𝓡 : Running 𝓤 𝓛.H 𝓜) (η : Env) (k g : Callee) where
    open 𝓛 use {H}

    pub in_place : Closed 𝓤 H (tables 𝓤 H 𝓜 𝓡 η).C (tables 𝓤 H 𝓜 𝓡 η).Λ k (body S P R two g) → Triple 𝓤 ((tables 𝓤 H 𝓜 𝓡 η).C g) (ByValue S P φ 𝓤 𝓛)
        → Meets 𝓛 (lent_ended P R).signature (𝓡.run (η k)) (closing 𝓛 (lent_ended P R) (lent_clauses P R ψ 𝓤))
    in_place closed known =
        proved 𝓛 𝓜 𝓡 (lent_ended P R) (stayed P R) (lent_clauses P R ψ 𝓤) η k (body S P R two g) closed
        (Goes-ref 𝓛 2 0 tt (plain (λ _. row_of P)), (Goes-none_slice 𝓛 2 (1 ∷ []) tt (plain (λ _. u8)) yes, tt)) (λ fm.
        walked 𝓛 (lent_ended P R) (stayed P R) (lent_clauses P R ψ 𝓤) (WpFn 𝓤 H (tables 𝓤 H 𝓜 𝓡 η).C (tables 𝓤 H 𝓜 𝓡 η).Λ (body S P R two g))
        (λ κs. (mut_vals, (shr_slice_vals, tt))) (λ κs. (mut_Tells (named 0) κs.0 (row_of P), (shr_slice_Tells (named 1) κs.1.0 u8, tt)))
        (λ κs qs bounds a _ are. via 𝓤 _ (fst∗ 𝓤 _ (emp 𝓤)) (walk 𝓛 κs.0 κs.1.0 qs.0 qs.1.0 a.0.ref_ptr.0 a.0.ref_ptr.1 a.0.ghost_name a.0.now a.1.0
        (tables 𝓤 H 𝓜 𝓡 η).C (tables 𝓤 H 𝓜 𝓡 η).Λ fm g known are.1.0.0.1)))
