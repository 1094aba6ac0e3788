-- `writer_molecule::entry_count` meets its contract.
use borrow.Author.Rules.{rules}
use Rattle.writer_molecule.specs.Listing.{counting_laws}
use Rattle.writer_molecule.proofs.entry_count.Goals as goal

pub loop-i-preserved : goal.loop-i-preserved
loop-i-preserved c = search (rules, counting_laws)

pub returns : goal.returns
returns c = search (rules, counting_laws)
