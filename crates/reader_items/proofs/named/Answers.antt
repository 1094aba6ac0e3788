-- `reader_items::named` meets its contract.
use Rattle.reader_items.specs.Titles.{start_laws}
use borrow.Author.Rules.{rules}
use Rattle.reader_items.proofs.named.Goals as goal

pub overflow_add-result : goal.overflow_add-result
overflow_add-result c = search (rules, start_laws)

pub returns : goal.returns
returns c = search (rules, start_laws)
