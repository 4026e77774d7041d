-- What a restore by value returns, as crate `by_hand` takes a struct.
-- Assumes nothing.
use Rattle.saved.specs.contracts.Resumed as S
use Rattle.saved.proofs.Resumed.TheLaws as S'
use Rattle.by_hand.proofs.Structs.{PlainStruct}

abbrev pub After : PlainStruct
After = record { type = S.the_type; laws = S'.the_laws; plain = S'.the_plain; copy = S'.the_copy }
