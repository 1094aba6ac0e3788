use Rattle.stock_join.specs.Steps.{file_is}
use borrow.Author.Rules.{rules}
use Rattle.stock_join.proofs.Join.file.Goals as goal

pub returns : goal.returns
returns c = search (rules, file_is)
