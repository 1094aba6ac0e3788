-- `writer_tables::repeated_pair` meets its contract.
use Rattle.writer_tables.proofs.Pairs.{walking}
use borrow.Author.Rules.{rules}
use Rattle.writer_tables.proofs.repeated_pair.Goals as goal

pub loop-j-preserved : goal.loop-j-preserved
loop-j-preserved c = search (rules, walking)

pub loop-i-preserved : goal.loop-i-preserved
loop-i-preserved c = search (rules, walking)

pub returns-then-same_at : goal.returns-then-same_at
returns-then-same_at c = search (rules, walking)
