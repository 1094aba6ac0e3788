-- `line_atom::atom_position` meets its contract.
use Rattle.std.specs.Prelude.{Some}
use borrow.Author.Rules.{rules}
use Rattle.line_atom.specs.AtomParts.{position_usual}
use Rattle.line_atom.proofs.atom_position.Goals as goal

pub returns-in-Some : goal.returns-in-Some
returns-in-Some c = search (rules, position_usual)
