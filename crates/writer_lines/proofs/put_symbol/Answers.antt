-- `writer_lines::put_symbol` meets its contract.
use Rattle.writer_lines.specs.LineParts.{put_laws}
use borrow.Author.Rules.{rules}
use Rattle.writer_lines.proofs.put_symbol.Goals as goal

pub put_symbol-requires : goal.put_symbol-requires
put_symbol-requires c = search (rules, put_laws)

pub returns : goal.returns
returns c = search (rules, put_laws)
