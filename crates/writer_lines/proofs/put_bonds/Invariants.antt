use Rattle.writer_lines.specs.Lines.{bond_line}
use Rattle.writer_lines.specs.Walks.{Laying}
use Rattle.writer_lines.proofs.put_bonds.Given as goal

abbrev pub invariant-loop-i : goal.invariant-loop-i
invariant-loop-i l = Laying bond_line 6 22 l.bonds l.m l.initial.room l.room l.at l.i l.e
