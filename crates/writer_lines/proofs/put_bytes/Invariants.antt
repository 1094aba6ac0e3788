use Rattle.writer_lines.specs.LineParts.{Copying}
use Rattle.writer_lines.proofs.put_bytes.Given as goal

abbrev pub invariant-loop-i : goal.invariant-loop-i
invariant-loop-i l = Copying l.src l.initial.room l.room l.at l.i
