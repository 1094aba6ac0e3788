-- `reader_tables::codes_void` meets its contract.
use Rattle.reader_tables.proofs.Rows.{by_charges, by_radicals}
use borrow.Author.Rules.{rules}
use Rattle.reader_tables.proofs.codes_void.Goals as goal

pub returns-then-any_listed : goal.returns-then-any_listed
returns-then-any_listed c = search (rules, by_charges, by_radicals)

pub returns : goal.returns
returns c = search (rules, by_charges, by_radicals)
