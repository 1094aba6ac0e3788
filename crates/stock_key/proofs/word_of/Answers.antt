use Rattle.stock_key.specs.Steps.{byte_laws}
use borrow.Author.Rules.{rules}
use Rattle.stock_key.proofs.word_of.Goals as goal

pub returns : goal.returns
returns c = search (rules, byte_laws)
