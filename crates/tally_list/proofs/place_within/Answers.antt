use Rattle.tally_list.specs.Changing.{within_in, within_out}
use borrow.Author.Rules.{rules}
use Rattle.tally_list.proofs.place_within.Goals as goal

pub returns-then-at-lt-SUPPLIERS : goal.returns-then-at-lt-SUPPLIERS
returns-then-at-lt-SUPPLIERS c = search (rules, within_in, within_out)

pub returns : goal.returns
returns c = search (rules, within_in, within_out)
