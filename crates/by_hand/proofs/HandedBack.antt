-- One walk for every function of the form
--     fn g(p: P, input: &[u8]) -> S { let mut q = p; let second = f(&mut q, input); S { first: q, second } }
-- where f is the lent form (`Forms.antt`): ψ is what f promises, and φ what g promises of its result. The callers of g are proved by the prover and
-- not by hand, for no lent struct is among its own parameters.
--     body            g's MIR
--     handed_back     g meets its contract, if f meets its own and ψ gives φ
-- The struct is copied into a local, which is lent to f for a lifetime that is made for the call, is back at the last value that f promises, and
-- goes into the result. The slice is Copy: one copy goes to the callee, and one is kept for the exit.
-- Assumes nothing.
use mathlib.Core.Path.{refl, subst}
use Prim.Native.Nat.{ℕ}
use mathlib.Core.List.{[], ◌∷◌, List}
use lib.Dec.{T as Holds}
use lib.ListN.{length}
use seplogic.Ra.Ura.{Ura}
use base.Fraction.{full_share}
use mir.Syntax.{Callee, Fn, Ty, named, erased, mut, imm, w8, ty_int, ty_ref, local, value_local, memory_slot, place, copy, rv_opd, addr_of, aggregate, assign, call, seq, return}
use mir.Val.{Val, WT, has_ty, vptr, vstruct, vcons, vnil}
use base.Logic.{SProp, ent, sep, emp, via, fst∗, id⊢}
use base.Fml.{GName, Lft, Share, Fml, ftrue, fat, flft}
use prog.Model.{Model}
use prog.Routine.{Env}
use prog.Wp.{Calls, Loops, WpFn, Closed}
use types.Logic.{Logic, sem}
use contract.Running.{Running, tables}
use types.Kit.{‵, raw, ◌⊛◌, ⋆, ◌$◌, ◌∵◌, !, qed, by, move, keep, drop, use1, use3, split, join, rewrite, fsplit, fjoin, suffices, frame, done}
use types.Run.{look, init, forget, stop, from, load, addr, and_then, no_more, of_opd, assigns, land, returns, enter, alloc1, alloc0, params1, pass1, pass0, free1, free0}
use types.Part.{agg}
use sound.WpLaws.{FmC}
use denote.RattleType.{owns}
use denote.Laws.{Is}
use denote.Memory.{pointee}
use denote.Builtin.{u8}
use denote.Plain.{uint_row_laws}
use denote.Ref.{MutRef}
use denote.Slice.{slice_ty, shr_slice_vals, ShrSlice, Room, shr_slice_Tells, shr_slice_copy}
use denote.Signature.{plain}
use denote.Steps.{nothing}
use denote.Struct.Laws as LL
use denote.Triple.Clauses.{closing}
use denote.Triple.Statement.{Triple}
use denote.Triple.Call.{calls_at}
use denote.Triple.Entry.{on_entry}
use denote.Triple.Spec.{Meets}
use denote.Triple.Walked.{says, Stays, stay_none, stay_none_slice, walk_of, Goes-none, Goes-none_slice, ends_at, walked}
use denote.Exit.{yes}
use Rattle.by_hand.proofs.Structs.{PlainStruct, row_of, mir_of, val_of, Stands, typed, owns_plain, bound, silent}
use Rattle.by_hand.proofs.Results as result
use Rattle.by_hand.proofs.Results.{Plain}
use Rattle.by_hand.proofs.Borrows.{to_local, lends_local, local_back}
use Rattle.by_hand.proofs.Calls.{returned, proved}
use Rattle.by_hand.proofs.Forms.{Slice, slice_at, Pair, pair_mir, lent_ended, lent_clauses, value_ended, value_clauses, Lent}

module _ (S P : PlainStruct) (R : Plain) (two : Pair S P R) where
  abbrev pub body : Callee → Fn
  body f = record {
    lifetimes = 1;
    outlives = [];
    ty_params = [];
    givens = 0;
    params = 2;
    locals = local (pair_mir S P R two) value_local ∷ local (mir_of P) value_local ∷ local (slice_ty (ty_ref (named 0) imm (ty_int w8))) value_local
        ∷ local (mir_of P) memory_slot ∷ local (result.mir_of R) value_local ∷ local (ty_ref erased mut (pointee (row_of P).written)) value_local ∷ local (mir_of P) value_local ∷ [];
    body = seq (assign (place 3 []) (rv_opd (copy (place 1 []))))
        (seq (assign (place 5 []) (addr_of (place 3 [])))
        (seq (call f (copy (place 5 []) ∷ copy (place 2 []) ∷ []) (place 4 []))
        (seq (assign (place 6 []) (rv_opd (copy (place 3 []))))
        (seq (assign (place 0 []) (aggregate (copy (place 6 []) ∷ copy (place 4 []) ∷ []))) return))));
  }

  -- the machine value of the result
  abbrev pair_val : P.type.D → R.row.Denot → Val
  pair_val p r = vstruct (vcons (val_of P p) (vcons (R.val r) vnil))

  pair_is : (p : P.type.D) (r : R.row.Denot) → Stands P p → result.Stands R r → Is (row_of S) (two.both p r) (pair_val p r ∷ [])
  pair_is p r st is = subst (λ (u : Val). Is (row_of S) (two.both p r) (u ∷ [])) (two.val_both p r) (two.both_stand p r st is)

abbrev stayed : (S P : PlainStruct) → Stays (value_ended S P).signature.params (value_ended S P).kept
stayed S P = (stay_none (λ _. row_of P) yes, (stay_none_slice (0 ∷ []) tt (plain (λ _. u8)) yes, tt))

module _ (S P : PlainStruct) (R : Plain) (two : Pair S P R) (φ : P.type.D → List ℕ → S.type.D → Type 0)
    (ψ : P.type.D → List ℕ → P.type.D → R.row.Denot → Type 0)
    (link : (h : P.type.D) (s : List ℕ) (p : P.type.D) (r : R.row.Denot) → ψ h s p r → φ h s (two.both p r)) where
  module _ {M : Type 1} {𝓤 : Ura M} (𝓛 : Logic 𝓤) (κ : Lft) (q : Share) (h : P.type.D) (s : Slice) where
    open 𝓛 use {H}

    abbrev x : P.type.D × (Slice × Unit {0})
    x = (h, (s, tt))

    abbrev at : List Val × (List Val × Unit {0})
    at = (val_of P h ∷ [], (slice_at s ∷ [], tt))

    abbrev Input : Fml
    Input = (ShrSlice (named 0) κ u8).own_val s (slice_at s ∷ [])

    -- what the parameters own together
    abbrev Owned : Fml
    Owned = owns (row_of P ∷ ShrSlice (named 0) κ u8 ∷ []) x at

    -- the slice is had twice
    twice : ent 𝓤 (sem 𝓛 Owned) (sep 𝓤 (sem 𝓛 Owned) (sem 𝓛 Input))
    twice =
        qed 𝓛 (‵ Owned ∷ []) ∵ fsplit ! $ move ! (1 ∷ []) $ fsplit ! $ use1 𝓛 (‵ Input ⊛ ‵ Input) ((shr_slice_copy 𝓛 (named 0) κ u8 (uint_row_laws w8)).twice s (slice_at s ∷ [])) $ split ! $
        move ! (0 ∷ 2 ∷ []) $ fjoin ! $ move ! (2 ∷ 0 ∷ []) $ fjoin ! $ frame ! $ done !

    abbrev Post : Val → SProp 𝓤
    Post = (walk_of 𝓛 (value_ended S P) (stayed S P) (value_clauses S P φ 𝓤)).post (((κ, tt), (q, tt), tt, x, at), tt)

    exits : (r : S.type.D) (v : Val) → φ h s.now r → Is (row_of S) r (v ∷ []) → ent 𝓤 (⋆ 𝓛 (‵ (flft κ q) ∷ ‵ Owned ∷ [])) (Post v)
    exits r v e is =
        qed 𝓛 (‵ (flft κ q) ∷ ‵ Owned ∷ []) ∵
        suffices ! _ (ends_at 𝓛 (value_ended S P) (stayed S P) (value_clauses S P φ 𝓤) (((κ, tt), (q, tt), tt, x, at), tt) v r (bound P yes h, (tt, tt)) (tt, (tt, tt))) $ says ! e $
        nothing ! $ move ! (1 ∷ 0 ∷ []) $ join ! $ frame ! $ owns_plain ! S r v is $ move ! (1 ∷ 0 ∷ []) $ done !

    -- what f's triple binds outside, for the local l that is lent for ν, and that the caller has what it asks
    abbrev to_f : ℕ → GName → ℕ → (Lent P R ψ 𝓤 𝓛).Ghost
    to_f ν γ l = (((ν ∷ [], (κ, tt)), (full_share, (q, tt)), tt, (to_local l γ h, (s, tt)), (vptr l 0 ∷ [], (slice_at s ∷ [], tt))), tt)

    asked : (ν : ℕ) (γ : GName) (l : ℕ)
        → ent 𝓤 (⋆ 𝓛 ((‵ ((MutRef (named 0) (ν ∷ []) (row_of P)).own_val (to_local l γ h) (vptr l 0 ∷ [])) ⊛ ‵ (flft (ν ∷ []) full_share)) ∷ ‵ (flft κ q) ∷ ‵ Input ∷ [])) ((Lent P R ψ 𝓤 𝓛).pre (to_f ν γ l))
    asked ν γ l =
        qed 𝓛 ((‵ ((MutRef (named 0) (ν ∷ []) (row_of P)).own_val (to_local l γ h) (vptr l 0 ∷ [])) ⊛ ‵ (flft (ν ∷ []) full_share)) ∷ ‵ (flft κ q) ∷ ‵ Input ∷ []) ∵ split ! $
        nothing ! $ move ! (4 ∷ 0 ∷ []) $ fjoin ! $ move ! (1 ∷ 0 ∷ []) $ fjoin ! $ nothing ! $ move ! (3 ∷ 0 ∷ []) $ join ! $ move ! (2 ∷ 0 ∷ []) $ join ! $ join ! $ frame ! $ done !

    -- the machine value of the result has S's MIR type, written out
    pair_typed : (p : P.type.D) (r : R.row.Denot) → Stands P p → result.Stands R r → Holds (has_ty (pair_mir S P R two) (pair_val S P R two p r)) × WT (pair_val S P R two p r)
    pair_typed p r st is = subst (λ (σ : Ty). Holds (has_ty σ (pair_val S P R two p r)) × WT (pair_val S P R two p r)) two.mir_is (typed S 𝓛 (two.both p r) _ (pair_is S P R two p r st is))

    module _ (C : Calls 𝓤 H) (Λ : Loops 𝓤 H) (fm : FmC 𝓤 H 𝓛.laws C) (f : Callee) (known : Triple 𝓤 (C f) (Lent P R ψ 𝓤 𝓛)) where
      walk : Room u8 (length s.now) → Stands P h → ent 𝓤 (on_entry 𝓛 (value_ended S P).signature (κ, tt) (q, tt) x at) (WpFn 𝓤 H C Λ (body S P R two f) (val_of P h ∷ slice_at s ∷ []) Post)
      walk room st =
          qed 𝓛 ((‵ (flft κ q) ⊛ ‵ ftrue) ∷ ‵ Owned ∷ []) ∵ enter ! C Λ (body S P R two f) (val_of P h ∷ slice_at s ∷ []) _ $
          alloc1 ! (λ l₀. alloc1 ! (λ l₁. alloc1 ! (λ l₂. alloc1 ! (λ l₃. alloc1 ! (λ l₄. alloc1 ! (λ l₅. alloc1 ! (λ l₆. alloc0 ! $ params1 ! $
          pass1 ! (init ! 10 refl (typed P 𝓛 h _ st)) $ pass1 ! (init ! 8 refl (tt, (tt, (record { fits = room.0 }, tt)))) $ pass0 ! $
          -- the token is taken apart, and the slice is had twice
          move ! (14 ∷ []) $ split ! $ move ! (1 ∷ []) $ drop ! $ move ! (15 ∷ []) $ use1 𝓛 (‵ Owned ⊛ ‵ Input) twice $ split ! $
          -- [Owned; Input; token; room for _6; …; _5; …; _4; …; _3; …; _2; …; _1; …; room for _0; …]
          assigns ! (of_opd ! (load ! (from ! (stop !)) (look ! 13 refl))) (from ! (stop !)) (init ! 9 refl (typed P 𝓛 h _ st)) $
          assigns ! (addr ! (from ! (stop !))) (from ! (stop !)) (init ! 5 refl (tt, tt)) $
          -- the local is lent
          move ! (9 ∷ 2 ∷ 1 ∷ []) $ lends_local ! tt P (named 0) h l₃ st (λ ν γ. join ! $ move ! (0 ∷ 2 ∷ 3 ∷ []) $ use3 𝓛 (raw ((Lent P R ψ 𝓤 𝓛).pre (to_f ν γ l₃))) (asked ν γ l₃) $
          -- [what f asks; the lender's part; Owned; room for _6; …; _5; …; room for _4; …; what frees _3; _2; …; _1; …; room for _0; …]
          calls_at ! fm (Lent P R ψ 𝓤 𝓛) known (to_f ν γ l₃) (and_then ! (load ! (from ! (stop !)) (look ! 5 refl)) (and_then ! (load ! (from ! (stop !)) (look ! 10 refl)) (no_more !))) (λ v.
          returned ! tt (lent_ended P R) (lent_clauses P R ψ 𝓤) (to_f ν γ l₃) v (λ r ws. ψ h s.now ws.0 r) (λ r ws. id⊢ 𝓤 _) (λ r ws is e. drop ! $
          -- [the last values; the tokens; the lender's part; Owned; …]
          fsplit ! $ fsplit ! $ move ! (1 ∷ []) $ drop ! $ move ! (2 ∷ []) $ use1 𝓛 (‵ (flft (ν ∷ []) full_share) ⊛ ‵ (flft κ q) ⊛ ‵ ftrue) (id⊢ 𝓤 _) $ split ! $ move ! (1 ∷ []) $ split ! $
          -- [the slice's token; true; the loan's token; the last struct; true; the lender's part; Owned; …]
          move ! (2 ∷ 5 ∷ 3 ∷ []) $ local_back ! tt P ws.0 l₃ (λ st'. move ! (2 ∷ []) $ drop ! $ move ! (2 ∷ []) $ drop ! $
          -- [_3; token; Owned; room for _6; …; _5; …; room for _4; …; what frees _3; _2; …; _1; …; room for _0; …]
          land ! (from ! (stop !)) (init ! 7 refl (R.typed 𝓛 r v is)) $ rewrite ! 7 (λ (u : Val). ‵ (fat full_share (result.mir_of R) l₄ 0 u)) (result.val_is R r v is) refl $
          assigns ! (of_opd ! (load ! (from ! (stop !)) (look ! 0 refl))) (from ! (stop !)) (init ! 3 refl (typed P 𝓛 ws.0 _ st')) $
          assigns ! (agg ! (and_then ! (load ! (from ! (stop !)) (look ! 3 refl)) (and_then ! (load ! (from ! (stop !)) (look ! 7 refl)) (no_more !)))) (from ! (stop !)) (init ! 14 refl (pair_typed ws.0 r st' (result.stands R r v is))) $
          returns ! (look ! 14 refl) $ forget ! 0 refl $ forget ! 3 refl $ forget ! 5 refl $ forget ! 7 refl $ forget ! 10 refl $ forget ! 12 refl $ forget ! 14 refl $
          move ! (14 ∷ 15 ∷ []) $ free1 ! $ move ! (12 ∷ 13 ∷ []) $ free1 ! $ move ! (10 ∷ 11 ∷ []) $ free1 ! $ move ! (0 ∷ 9 ∷ []) $ free1 ! $ move ! (6 ∷ 7 ∷ []) $ free1 ! $ move ! (4 ∷ 5 ∷ []) $ free1 ! $ move ! (2 ∷ 3 ∷ []) $ free1 ! $ free0 ! $
          keep ! (0 ∷ 1 ∷ []) $ by ! (exits (two.both ws.0 r) _ (link h s.now ws.0 r e) (pair_is S P R two ws.0 r st' (result.stands R r v is))))))))))))))

  module _ {M : Type 1} {𝓤 : Ura M} (𝓛 : Logic 𝓤) (𝓜 : Model 𝓤 𝓛.H) (𝓡 : Running 𝓤 𝓛.H 𝓜) (η : Env) (k f : Callee) where
    open 𝓛 use {H}

    pub handed_back : Closed 𝓤 H (tables 𝓤 H 𝓜 𝓡 η).C (tables 𝓤 H 𝓜 𝓡 η).Λ k (body S P R two f) → Triple 𝓤 ((tables 𝓤 H 𝓜 𝓡 η).C f) (Lent P R ψ 𝓤 𝓛)
        → Meets 𝓛 (value_ended S P).signature (𝓡.run (η k)) (closing 𝓛 (value_ended S P) (value_clauses S P φ 𝓤))
    handed_back closed known =
        proved 𝓛 𝓜 𝓡 (value_ended S P) (stayed S P) (value_clauses S P φ 𝓤) η k (body S P R two f) closed
        (Goes-none 𝓛 1 (λ _. row_of P) yes (λ κs y w. silent P yes y w), (Goes-none_slice 𝓛 1 (0 ∷ []) tt (plain (λ _. u8)) yes, tt)) (λ fm.
        walked 𝓛 (value_ended S P) (stayed S P) (value_clauses S P φ 𝓤) (WpFn 𝓤 H (tables 𝓤 H 𝓜 𝓡 η).C (tables 𝓤 H 𝓜 𝓡 η).Λ (body S P R two f))
        (λ κs. (LL.vals P.type P.laws, (shr_slice_vals, tt))) (λ κs. (LL.tells P.type P.laws, (shr_slice_Tells (named 0) κs.0 u8, tt)))
        (λ κs qs bounds a _ are. via 𝓤 _ (fst∗ 𝓤 _ (emp 𝓤)) (walk 𝓛 κs.0 qs.0 a.0 a.1.0
        (tables 𝓤 H 𝓜 𝓡 η).C (tables 𝓤 H 𝓜 𝓡 η).Λ fm f known are.1.0.0.1 are.0)))
