-- `writer_molecule::put_tag` meets its contract.
use Rattle.writer_molecule.specs.Listing.{tag_laws}
use borrow.Author.Rules.{rules}
use Rattle.writer_molecule.proofs.put_tag.Goals as goal

pub returns-then-kind-eq0 : goal.returns-then-kind-eq0
returns-then-kind-eq0 c = search (rules, tag_laws)

pub returns-then-kind-eq1 : goal.returns-then-kind-eq1
returns-then-kind-eq1 c = search (rules, tag_laws)

pub returns : goal.returns
returns c = search (rules, tag_laws)
