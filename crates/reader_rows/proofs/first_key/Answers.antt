-- `reader_rows::first_key` meets its contract.
use Rattle.reader_rows.specs.Rowed.{new_none}
use borrow.Author.Rules.{rules}
use Rattle.reader_rows.proofs.first_key.Goals as goal

pub returns-then-new_in : goal.returns-then-new_in
returns-then-new_in c = search (rules, new_none)
