-- `writer_lines::put_bytes` meets its contract.
use borrow.Author.Rules.{rules}
use Rattle.writer_lines.specs.LineParts.{copying_laws}
use Rattle.writer_lines.proofs.put_bytes.Goals as goal

pub loop-i-preserved : goal.loop-i-preserved
loop-i-preserved c = search (rules, copying_laws)
