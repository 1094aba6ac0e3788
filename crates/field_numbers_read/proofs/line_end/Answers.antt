-- `field_numbers::line_end` meets its contract.
use Rattle.field_numbers.proofs.Fields.{line_laws}
use borrow.Author.Rules.{rules}
use Rattle.field_numbers_read.proofs.line_end.Goals as goal

pub returns-then-line-last : goal.returns-then-line-last
returns-then-line-last c = search (rules, line_laws)

pub returns : goal.returns
returns c = search (rules, line_laws)
