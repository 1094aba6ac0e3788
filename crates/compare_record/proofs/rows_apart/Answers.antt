use borrow.Author.Rules.{rules}
use Rattle.compare_record.specs.Numbers.{number_laws}
use Rattle.compare_record.proofs.rows_apart.Goals as goal

pub table_apart-requires : goal.table_apart-requires
table_apart-requires c = search (rules, number_laws)

pub returns : goal.returns
returns c = search (rules, number_laws)
