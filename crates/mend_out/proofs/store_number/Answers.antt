use Rattle.mend_out.specs.Out.{stored_past}
use borrow.Author.Rules.{rules}
use Rattle.mend_out.proofs.store_number.Goals as goal

pub returns-else-i-list : goal.returns-else-i-list
returns-else-i-list c = search (rules, stored_past)
