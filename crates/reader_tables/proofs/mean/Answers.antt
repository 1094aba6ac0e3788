-- `reader_tables::mean` meets its contract.
use Rattle.std.proofs.Common.{rules}
use Rattle.reader_tables.proofs.Rows.{meanings}
use Rattle.reader_tables.proofs.mean.Goals as goal

pub loop-i-preserved : goal.loop-i-preserved
loop-i-preserved c = search (rules, meanings)

pub returns : goal.returns
returns c = search (rules, meanings)
