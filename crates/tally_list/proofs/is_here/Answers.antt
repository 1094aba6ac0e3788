use Rattle.tally_list.specs.Changing.{not_used, here_told}
use borrow.Author.Rules.{rules}
use Rattle.tally_list.proofs.is_here.Goals as goal

pub returns-then-used-at : goal.returns-then-used-at
returns-then-used-at c = search (rules, not_used)

pub returns : goal.returns
returns c = here_told _ _ _ _ (search rules) _ c.order_front.ensures _ c.is_same.ensures
