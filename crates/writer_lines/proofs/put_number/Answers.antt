-- `writer_lines::put_number` meets its contract.
use Rattle.writer_lines.specs.LineParts.{put_laws}
use borrow.Author.Rules.{rules}
use Rattle.writer_lines.proofs.put_number.Goals as goal

pub returns : goal.returns
returns c = search (rules, put_laws)
