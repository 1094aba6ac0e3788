-- `writer_lines::put_columns` meets its contract.
use borrow.Author.Rules.{rules}
use Rattle.writer_lines.specs.LineParts.{columns_laws}
use Rattle.writer_lines.proofs.put_columns.Goals as goal

pub loop-k-init : goal.loop-k-init
loop-k-init c = search (rules, columns_laws)

pub loop-k-preserved : goal.loop-k-preserved
loop-k-preserved c = search (rules, columns_laws)
