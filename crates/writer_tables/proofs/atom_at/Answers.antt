-- `writer_tables::atom_at` meets its contract.
use mathlib.Core.Path.{ap, ◌∙◌}
use mathlib.Core.List.{List}
use lib.IntN.{ℤ}
use Rattle.rules.specs.Canon.{atom_row}
use Rattle.writer_row.specs.Row.{atom_holds}
use Rattle.writer_tables.proofs.Loops.{row_part}
use borrow.Author.Rules.{rules}
use Rattle.writer_tables.proofs.atom_at.Goals as goal

pub returns : goal.returns
returns c = let a = c.args in
    c.atom_holds.ensures ∙ ap (λ (t : List ℤ). atom_holds a.n (atom_row t)) (row_part 16 a.atoms.now a.i)
