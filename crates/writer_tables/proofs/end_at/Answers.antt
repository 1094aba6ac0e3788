-- `writer_tables::end_at` meets its contract.
use Rattle.writer_tables.proofs.Pairs.{end_laws}
use borrow.Author.Rules.{rules}
use Rattle.writer_tables.proofs.end_at.Goals as goal

pub returns-then-v-lt0 : goal.returns-then-v-lt0
returns-then-v-lt0 c = search (rules, end_laws)

pub overflow_cast-size : goal.overflow_cast-size
overflow_cast-size c = search (rules, end_laws)

pub returns-then-size-gt999 : goal.returns-then-size-gt999
returns-then-size-gt999 c = search (rules, end_laws)

pub returns : goal.returns
returns c = search (rules, end_laws)
