-- `reader_item::find_item` meets its contract.
use Rattle.reader_item.proofs.Agree.{promise_laws}
use borrow.Author.Rules.{rules}
use Rattle.reader_item.proofs.find_item.Goals as goal

pub returns : goal.returns
returns c = search (rules, promise_laws)
