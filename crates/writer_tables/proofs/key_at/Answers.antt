-- `writer_tables::key_at` meets its contract.
use Rattle.writer_tables.proofs.Pairs.{key_laws}
use borrow.Author.Rules.{rules}
use Rattle.writer_tables.proofs.key_at.Goals as goal

pub pair_key-requires : goal.pair_key-requires
pair_key-requires c = search (rules, key_laws)

pub returns : goal.returns
returns c = search (rules, key_laws)
