use borrow.Author.Rules.{rules}
use Rattle.compare_items.specs.Resting.{valued}
use Rattle.compare_items.proofs.values_apart.Goals as goal

pub returns : goal.returns
returns c = search (rules, valued)
