-- `reader_tables::clear` meets its contract.
use Rattle.std.proofs.Common.{arith}
use Rattle.reader_tables.proofs.Clearing.{halves_end}
use Rattle.reader_tables.proofs.clear.Goals as goal

pub returns : goal.returns
returns c = halves_end _ _ _ _ _ _ c.loop-block.invariant (omega arith) _ c.clear_few.ensures
