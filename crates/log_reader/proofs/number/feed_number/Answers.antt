use borrow.Author.Rules.{rules}
use Rattle.log_reader.proofs.Readers.{number_goes}
use Rattle.log_reader.proofs.number.feed_number.Goals as goal

pub returns-in-GoesOn : goal.returns-in-GoesOn
returns-in-GoesOn c =
    let a = c.args in
    number_goes a.wanted a.value a.groups a.byte c.requires c.weight_of.ensures (rw c.from-2.ensures at c.next.ensures) (search rules) c.in-GoesOn.is
