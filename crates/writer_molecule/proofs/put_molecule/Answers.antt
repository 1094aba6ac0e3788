-- `writer_molecule::put_molecule` meets its contract.
use Rattle.writer_molecule.specs.Sizes.{body_laws}
use borrow.Author.Rules.{rules}
use Rattle.writer_molecule.proofs.put_molecule.Goals as goal

pub returns : goal.returns
returns c = search (rules, body_laws)
