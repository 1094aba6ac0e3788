-- `writer_molecule::is_zero` meets its contract.
use Rattle.writer_molecule.specs.Listing.{zero_laws}
use borrow.Author.Rules.{rules}
use Rattle.writer_molecule.proofs.is_zero.Goals as goal

pub returns-then-v-eq0 : goal.returns-then-v-eq0
returns-then-v-eq0 c = search (rules, zero_laws)

pub returns : goal.returns
returns c = search (rules, zero_laws)
