use Rattle.writer_lines.specs.Lines.{atom_line}
use Rattle.writer_lines.specs.Walks.{Laying}
use Rattle.writer_lines.proofs.put_atoms.Given as goal

abbrev pub invariant-loop-i : goal.invariant-loop-i
invariant-loop-i l = Laying atom_line 16 70 l.atoms l.n l.initial.room l.room l.at l.i l.e
