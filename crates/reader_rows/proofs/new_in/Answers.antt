-- `reader_rows::new_in` meets its contract.
use Rattle.reader_rows.proofs.Asked.{asked_laws, low_row}
use borrow.Author.Rules.{rules}
use Rattle.reader_rows.proofs.new_in.Goals as goal

pub returns-then-rows-eq0 : goal.returns-then-rows-eq0
returns-then-rows-eq0 c = search (rules, asked_laws)

pub has_in_row-requires : goal.has_in_row-requires
has_in_row-requires c = low_row _ _ c.requires c.if-rows-eq0.false

pub returns-then-has_in_row : goal.returns-then-has_in_row
returns-then-has_in_row c = search (rules, asked_laws)

pub returns : goal.returns
returns c = search (rules, asked_laws)
