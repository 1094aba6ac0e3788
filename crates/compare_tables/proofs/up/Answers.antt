use Rattle.compare_rules.specs.Noted.{log_laws}
use borrow.Author.Rules.{rules}
use Rattle.compare_tables.proofs.up.Goals as goal

pub returns-then-count-lt-MOST : goal.returns-then-count-lt-MOST
returns-then-count-lt-MOST c = search (rules, log_laws)

pub returns : goal.returns
returns c = search (rules, log_laws)
