use Rattle.std.proofs.Common.{◌*◌}
use Rattle.reader_tables.proofs.Clearing.{Halves}
use Rattle.reader_tables.proofs.clear.Given as goal

abbrev pub invariant-loop-block : goal.invariant-loop-block
invariant-loop-block l = Halves l.initial.table l.table l.from l.to l.half (64 * l.block)
