-- `channels::RcChannelsPacked::first_above` meets its contract. Assumes nothing.
use Rattle.std.proofs.Common.{rules, tests}
use Rattle.std.proofs.lemmas.Iterator.{YieldsList-from_slice}
use Rattle.std.proofs.lemmas.Iterator.Search.{position_from_yields_List}
use mathlib.Core.Path.{◌∙◌}
use lib.Dec.{ltb}
use Rattle.channels.specs.Channels.{greatest}
use Rattle.channels.proofs.FirstAbove.{place_is}
use Rattle.channels.proofs.RcChannelsPacked.first_above.Goals as goal

pub returns : goal.returns
returns c =
    position_from_yields_List (ltb greatest) _ _ c.position.result c.position.ensures.ran (YieldsList-from_slice c.args.self.0 cc) (λ x b q k. search (rules, tests))
    ∙ place_is c.args.self.0
