-- `writer_row::ends_differ` meets its contract.
use Rattle.writer_row.proofs.Steps.{bits_differ}
use borrow.Author.Rules.{rules}
use Rattle.writer_row.proofs.ends_differ.Goals as goal

pub returns : goal.returns
returns c = search (rules, bits_differ)
