-- `writer_lines::put_code` meets its contract.
use Rattle.writer_lines.specs.LineParts.{put_laws}
use borrow.Author.Rules.{rules}
use Rattle.writer_lines.proofs.put_code.Goals as goal

pub returns : goal.returns
returns c = search (rules, put_laws)
