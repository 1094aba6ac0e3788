-- `writer_molecule::put_rest` meets its contract.
use Rattle.writer_molecule.specs.Sizes.{body_laws}
use borrow.Author.Rules.{rules}
use Rattle.writer_molecule.proofs.put_rest.Goals as goal

pub returns : goal.returns
returns c = search (rules, body_laws)
