-- `writer_lines::put_position` meets its contract.
use borrow.Author.Rules.{rules}
use Rattle.writer_lines.specs.LineParts.{line_parts}
use Rattle.writer_lines.proofs.put_position.Goals as goal

pub returns : goal.returns
returns c = search (rules, line_parts)
