-- Two forms of one function over a struct P of plain data and a slice of bytes:
--     lent        fn f(p: &mut P, input: &[u8]) -> R
--     by value    fn g(p: P, input: &[u8]) -> S, where S is a struct of the new P and the R
-- for any such structs, any R that owns only facts, and any promises.
--     Pair                         the struct S: its two fields, and how it is made of them
--     lent_ended, lent_clauses     f's signature, and its contract with the promise ψ.        Lent       the contract that its callers cite
--     value_ended, value_clauses   g's, with the promise φ.                                   ByValue
--     Slice, slice_at               a slice, and its machine value
-- Assumes nothing.
use mathlib.Core.Path.{◌≡◌}
use mathlib.Core.List.{[], ◌∷◌, List}
use Prim.Native.Nat.{ℕ}
use lib.ListN.{length}
use seplogic.Ra.Ura.{Ura}
use mir.Syntax.{Sym, Ty, ty_struct, tnil, tcons}
use mir.Val.{Val, vstruct, vnil, vcons}
use base.Logic.{emp}
use types.Logic.{Logic}
use contract.Monad.{fact}
use denote.Builtin.{u8, RefMutOf, SliceRefOf}
use denote.Ref.{Bor}
use denote.Slice.{slice_val}
use denote.Signature.{plain}
use denote.Triple.Clauses.{Ended, Clauses, closing}
use denote.Triple.Statement.{Contract}
use denote.Triple.Spec.{triple_of}
use denote.Exit.{yes}
use Rattle.by_hand.proofs.Structs.{PlainStruct, row_of, mir_of, val_of, Stands}
use Rattle.by_hand.proofs.Results as result
use Rattle.by_hand.proofs.Results.{Plain}

abbrev pub Slice : Type 0
Slice = Bor (List ℕ)

abbrev pub slice_at : Slice → Val
slice_at s = slice_val s.ref_ptr (length s.now)

-- S has two fields, a P and an R
pub record Pair (S P : PlainStruct) (R : Plain) : Type 2 where
  pub name : Sym
  pub first : S.type.D → P.type.D
  pub second : S.type.D → R.row.Denot
  pub both : P.type.D → R.row.Denot → S.type.D
  pub mir_is : mir_of S ≡ ty_struct name (tcons (mir_of P) (tcons (result.mir_of R) tnil))
  pub val_is : (r : S.type.D) → val_of S r ≡ vstruct (vcons (val_of P (first r)) (vcons (R.val (second r)) vnil))
  pub val_both : (p : P.type.D) (r : R.row.Denot) → val_of S (both p r) ≡ vstruct (vcons (val_of P p) (vcons (R.val r) vnil))
  pub first_stands : (r : S.type.D) → Stands S r → Stands P (first r)
  pub second_stands : (r : S.type.D) → Stands S r → result.Stands R (second r)
  pub both_stand : (p : P.type.D) (r : R.row.Denot) → Stands P p → result.Stands R r → Stands S (both p r)

-- the MIR type of S, written out
abbrev pub pair_mir : (S P : PlainStruct) (R : Plain) → Pair S P R → Ty
pair_mir S P R two = ty_struct two.name (tcons (mir_of P) (tcons (result.mir_of R) tnil))

-- ---- lent
module _ (P : PlainStruct) (R : Plain) where
  abbrev pub lent_ended : Ended
  lent_ended = record {
    signature = record {
      lifetimes = 2;
      outlives = [];
      params = RefMutOf (0 ∷ []) tt (plain (λ _. row_of P)) (λ _. tt) ∷ SliceRefOf (1 ∷ []) tt (plain (λ _. u8)) (λ _. tt) ∷ [];
      result = plain (λ _. R.row);
    };
    kept = (yes, (yes, tt));
  }

  -- what f promises of the struct and the input at entry, the struct at exit, and the result
  module _ (ψ : P.type.D → List ℕ → P.type.D → R.row.Denot → Type 0) {M : Type 1} (𝓤 : Ura M) where
    abbrev pub lent_clauses : Clauses 𝓤 lent_ended
    lent_clauses κs a = record { ghost = Unit {0}; requires = λ _. emp 𝓤; ensures = λ _ r e. fact 𝓤 (ψ a.0.now a.1.0.now e.0.now r) }

    abbrev pub Lent : (𝓛 : Logic 𝓤) → Contract 𝓤
    Lent 𝓛 = triple_of 𝓛 lent_ended.signature (closing 𝓛 lent_ended lent_clauses)

-- ---- by value
module _ (S P : PlainStruct) where
  abbrev pub value_ended : Ended
  value_ended = record {
    signature = record { lifetimes = 1; outlives = []; params = plain (λ _. row_of P) ∷ SliceRefOf (0 ∷ []) tt (plain (λ _. u8)) (λ _. tt) ∷ []; result = plain (λ _. row_of S) };
    kept = (yes, (yes, tt));
  }

  -- what g promises of the struct passed, the input and the result
  module _ (φ : P.type.D → List ℕ → S.type.D → Type 0) {M : Type 1} (𝓤 : Ura M) where
    abbrev pub value_clauses : Clauses 𝓤 value_ended
    value_clauses κs a = record { ghost = Unit {0}; requires = λ _. emp 𝓤; ensures = λ _ r e. fact 𝓤 (φ a.0 a.1.0.now r) }

    abbrev pub ByValue : (𝓛 : Logic 𝓤) → Contract 𝓤
    ByValue 𝓛 = triple_of 𝓛 value_ended.signature (closing 𝓛 value_ended value_clauses)
