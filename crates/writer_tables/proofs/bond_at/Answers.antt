-- `writer_tables::bond_at` meets its contract.
use mathlib.Core.Path.{ap, ◌∙◌}
use mathlib.Core.List.{List}
use lib.IntN.{ℤ}
use Rattle.rules.specs.Canon.{bond_row}
use Rattle.writer_row.specs.Row.{bond_holds}
use Rattle.writer_tables.proofs.Loops.{row_part}
use borrow.Author.Rules.{rules}
use Rattle.writer_tables.proofs.bond_at.Goals as goal

pub returns : goal.returns
returns c = let a = c.args in
    c.bond_holds.ensures ∙ ap (λ (t : List ℤ). bond_holds a.n (bond_row t)) (row_part 6 a.bonds.now a.i)
