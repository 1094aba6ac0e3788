use Rattle.formula_drawn.specs.Listing.{one_laws}
use borrow.Author.Rules.{rules}
use Rattle.formula_drawn.proofs.put_difference.Goals as goal

pub returns : goal.returns
returns c = search (rules, one_laws)
