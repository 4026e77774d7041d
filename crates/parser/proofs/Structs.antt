-- The crate's structs as the walks of crate `by_hand` take them. No walk looks at the fields of a parser or of what a call says, so a field more
-- there changes no walk. Assumes nothing.
use denote.Struct.Laws as LL
use mathlib.Core.Path.{refl}
use Rattle.parser.specs.contracts.CrsfParser as P
use Rattle.parser.proofs.CrsfParser.TheLaws as P'
use Rattle.numbered.specs.contracts.Answered as R
use Rattle.numbered.proofs.Answered.TheLaws as R'
use Rattle.parser.specs.contracts.Stepped as S
use Rattle.parser.proofs.Stepped.TheLaws as S'
use Rattle.parser.specs.Parser.{stepped}
use Rattle.by_hand.proofs.Structs.{PlainStruct}
use Rattle.by_hand.proofs.Results.{Plain, of_struct}
use Rattle.by_hand.proofs.Forms.{Pair}

abbrev pub Parser : PlainStruct
Parser = record { type = P.the_type; laws = P'.the_laws; plain = P'.the_plain; copy = P'.the_copy }

-- what a call says
abbrev pub Says : Plain
Says = of_struct (record { type = R.the_type; laws = R'.the_laws; plain = R'.the_plain; copy = R'.the_copy })

abbrev pub After : PlainStruct
After = record { type = S.the_type; laws = S'.the_laws; plain = S'.the_plain; copy = S'.the_copy }

-- what a call by value returns is a parser and what the call says
abbrev pub steps : Pair After Parser Says
steps = record {
  name = (S.the_type).name;
  first = λ r. r.parser;
  second = λ r. r.answered;
  both = stepped;
  mir_is = refl;
  val_is = λ r. refl;
  val_both = λ p r. refl;
  first_stands = λ r is. (LL.owed S.the_type S'.the_laws r _ is).0;
  second_stands = λ r is. (LL.owed S.the_type S'.the_laws r _ is).1.0;
  both_stand = λ p r st is. LL.owes S.the_type S'.the_laws (stepped p r) (st, (is, tt));
}
