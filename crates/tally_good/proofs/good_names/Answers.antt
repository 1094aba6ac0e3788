use Rattle.tally_good.specs.Steps.{names_sum, names_not}
use borrow.Author.Rules.{rules}
use Rattle.tally_good.proofs.good_names.Goals as goal

pub returns-then-rising_names : goal.returns-then-rising_names
returns-then-rising_names c = search (rules, names_sum, names_not)

pub returns : goal.returns
returns c = search (rules, names_sum, names_not)
