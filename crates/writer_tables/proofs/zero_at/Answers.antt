-- `writer_tables::zero_at` meets its contract.
use Rattle.writer_tables.proofs.Loops.{zero_bits}
use borrow.Author.Rules.{rules}
use Rattle.writer_tables.proofs.zero_at.Goals as goal

pub returns : goal.returns
returns c = search (rules, zero_bits)
