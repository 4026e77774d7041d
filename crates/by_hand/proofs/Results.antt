-- What a function answers, as the walks take it: a type that owns only facts and has one machine value. An enum is such a type, and so is a struct.
--     Plain                such a type.        mir_of, Stands      its MIR type, and that a value stands at its machine value
--     val_is, stands       a machine value that a value stands at is the value's
--     owns_result          what a value owns is had for nothing
--     of_enum, of_struct   a declared enum is such, and a declared struct
--     Typed                what a function that only hands a result on needs of its type.        plain_typed, usize_typed, u64_typed    such types
-- Assumes `Logic`.
use mathlib.Core.Path.{◌≡◌, ap, subst}
use mathlib.Core.List.{List, [], ◌∷◌}
use seplogic.Ra.Ura.{Ura}
use lib.Dec.{T as Holds}
use mir.Syntax.{Ty, w64}
use mir.Val.{Val, WT, has_ty}
use types.Logic.{Logic}
use types.Kit.{Item, Goal, Step, ‵}
use denote.RattleType.{RattleType}
use denote.Laws.{Is, Tells, Makes}
use denote.Memory.{lone}
use denote.Plain.{uint_Lawful}
use denote.Builtin.{usize, u64}
use denote.Steps.{only, owned}
use denote.Enum.Enum.{Plainss, Few}
use denote.Enum.Declared as EE
use denote.Enum.Laws as EL
use denote.Struct.Laws as LL
use Rattle.by_hand.proofs.Structs as struct
use Rattle.by_hand.proofs.Structs.{PlainStruct}

pub record Plain : Type 2 where
  pub row : RattleType
  pub val : row.Denot → Val
  pub tells : Tells row (Is row) (λ d. val d ∷ [])
  pub typed : {M : Type 1} {𝓤 : Ura M} (𝓛 : Logic 𝓤) → (d : row.Denot) (v : Val) → Is row d (v ∷ []) → Holds (has_ty (lone row.mir) v) × WT v
  pub makes : {M : Type 1} {𝓤 : Ura M} (𝓛 : Logic 𝓤) → Makes 𝓛 row (Is row)

module _ (R : Plain) where
  abbrev pub mir_of : Ty
  mir_of = lone R.row.mir

  abbrev pub Stands : R.row.Denot → Type 0
  Stands d = Is R.row d (R.val d ∷ [])

  pub val_is : (d : R.row.Denot) (v : Val) → Is R.row d (v ∷ []) → v ≡ R.val d
  val_is d v is = ap only (R.tells d _ is)

  pub stands : (d : R.row.Denot) (v : Val) → Is R.row d (v ∷ []) → Stands d
  stands d v is = subst (λ (u : Val). Is R.row d (u ∷ [])) (val_is d v is) is

module _ {M : Type 1} {𝓤 : Ura M} {𝓛 : Logic 𝓤} {K : Type 0} {Γ : List (Item 𝓤)} {G : Goal 𝓤 𝓛.H} where
  pub owns_result : K → (R : Plain) (d : R.row.Denot) (v : Val) → Is R.row d (v ∷ []) → Step K 𝓛 (‵ (R.row.own_val d (v ∷ [])) ∷ Γ) G Γ G
  owns_result t R d v is = owned t R.row (Is R.row) (R.makes 𝓛) d (v ∷ []) is

abbrev pub of_enum : (T : EE.Declared) → EL.Laws T → Plainss (EE.variants T) → Few (EE.shape T) → Plain
of_enum T L pl few = record {
  row = EE.row T;
  val = EL.val T L;
  tells = EL.tells T L;
  typed = λ 𝓛 d v is. ((EL.lawful T L 𝓛 few).typed d _ is).0;
  makes = λ 𝓛. EL.makes T pl 𝓛;
}

abbrev pub of_struct : PlainStruct → Plain
of_struct S = record {
  row = struct.row_of S;
  val = struct.val_of S;
  tells = LL.tells S.type S.laws;
  typed = λ 𝓛 d v is. struct.typed S 𝓛 d v is;
  makes = λ 𝓛. LL.makes S.type S.plain 𝓛;
}

-- of a type whose values are only handed on: a machine value that a value stands at has its MIR type
pub record Typed (R : RattleType) : Type 2 where
  pub typed : {M : Type 1} {𝓤 : Ura M} (𝓛 : Logic 𝓤) → (d : R.Denot) (v : Val) → Is R d (v ∷ []) → Holds (has_ty (lone R.mir) v) × WT v

abbrev pub plain_typed : (R : Plain) → Typed R.row
plain_typed R = record { typed = λ 𝓛 d v is. R.typed 𝓛 d v is }

abbrev pub usize_typed : Typed usize
usize_typed = record { typed = λ 𝓛 n v is. ((uint_Lawful 𝓛 w64).typed n _ is).0 }

abbrev pub u64_typed : Typed u64
u64_typed = record { typed = λ 𝓛 n v is. ((uint_Lawful 𝓛 w64).typed n _ is).0 }
