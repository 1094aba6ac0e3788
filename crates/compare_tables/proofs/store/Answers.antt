use Rattle.compare_rules.specs.Noted.{log_laws}
use borrow.Author.Rules.{rules}
use Rattle.compare_tables.proofs.store.Goals as goal

pub returns-else-at-list : goal.returns-else-at-list
returns-else-at-list c = search (rules, log_laws)
