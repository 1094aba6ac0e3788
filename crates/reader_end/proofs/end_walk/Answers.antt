-- `reader_end::end_walk` meets its contract.
use Rattle.reader_end.specs.Ending.{end_laws}
use borrow.Author.Rules.{rules}
use Rattle.reader_end.proofs.end_walk.Goals as goal

pub returns-in-MayEnd : goal.returns-in-MayEnd
returns-in-MayEnd c = search (rules, end_laws)

pub returns-in-Owes : goal.returns-in-Owes
returns-in-Owes c = search (rules, end_laws)
