-- `reader_clear::zero_rows` meets its contract.
use Rattle.reader_answer.specs.Rows.{zeroed_is}
use borrow.Author.Rules.{rules}
use Rattle.reader_clear.proofs.zero_rows.Goals as goal

pub returns : goal.returns
returns c = search (rules, zeroed_is)
