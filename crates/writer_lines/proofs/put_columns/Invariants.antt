use Rattle.writer_lines.specs.LineParts.{Columns}
use Rattle.writer_lines.proofs.put_columns.Given as goal

abbrev pub invariant-loop-k : goal.invariant-loop-k
invariant-loop-k l = Columns l.row l.initial.room l.room l.at l.i l.e l.k l.a
