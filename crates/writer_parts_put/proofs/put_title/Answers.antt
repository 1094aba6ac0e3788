-- `writer_parts_put::put_title` meets its contract.
use Rattle.writer_parts_put.proofs.Laying.{title_laid}
use borrow.Author.Rules.{rules}
use Rattle.writer_parts_put.proofs.put_title.Goals as goal

pub returns : goal.returns
returns c = search (rules, title_laid)
