-- `reader_rows::mark` meets its contract.
use Rattle.reader_rows.proofs.Asked.{asked_laws, low_row, high_row}
use borrow.Author.Rules.{rules}
use Rattle.reader_rows.proofs.mark.Goals as goal

pub returns-then-rows-eq0 : goal.returns-then-rows-eq0
returns-then-rows-eq0 c = search (rules, asked_laws)

pub put_in_row-requires : goal.put_in_row-requires
put_in_row-requires c = low_row _ _ c.requires c.if-rows-eq0.false

pub put_in_row-requires-2 : goal.put_in_row-requires-2
put_in_row-requires-2 c = high_row _ _ c.requires c.if-rows-eq0.false _ c.put_in_row.ensures

pub returns : goal.returns
returns c = search (rules, asked_laws)
