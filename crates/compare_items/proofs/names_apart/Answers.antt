use borrow.Author.Rules.{rules}
use Rattle.compare_items.specs.Items.{names_are}
use Rattle.compare_items.proofs.names_apart.Goals as goal

pub returns : goal.returns
returns c = search (rules, names_are)
