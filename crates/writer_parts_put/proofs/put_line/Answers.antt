-- `writer_parts_put::put_line` meets its contract.
use Rattle.writer_parts_put.proofs.Laying.{line_laid}
use borrow.Author.Rules.{rules}
use Rattle.writer_parts_put.proofs.put_line.Goals as goal

pub returns : goal.returns
returns c = search (rules, line_laid)
