use borrow.Author.Rules.{rules}
use Rattle.compare_tables.specs.SideBySide.{table_laws}
use Rattle.compare_tables.proofs.table_apart.Goals as goal

pub loop-i-init : goal.loop-i-init
loop-i-init c = search (rules, table_laws)

pub loop-i-preserved : goal.loop-i-preserved
loop-i-preserved c = search (rules, table_laws)
