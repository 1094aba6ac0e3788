-- `reader_end::at_end` meets its contract.
use Rattle.reader_end.specs.Ending.{end_laws}
use borrow.Author.Rules.{rules}
use Rattle.reader_end.proofs.at_end.Goals as goal

pub returns-then-left-eq0 : goal.returns-then-left-eq0
returns-then-left-eq0 c = search (rules, end_laws)

pub returns : goal.returns
returns c = search (rules, end_laws)
