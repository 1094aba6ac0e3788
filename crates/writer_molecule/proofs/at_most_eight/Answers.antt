-- `writer_molecule::at_most_eight` meets its contract.
use borrow.Author.Rules.{rules}
use Rattle.writer_molecule.specs.Listing.{eight_laws}
use Rattle.writer_molecule.proofs.at_most_eight.Goals as goal

pub returns-then-left-lt-PER_LINE : goal.returns-then-left-lt-PER_LINE
returns-then-left-lt-PER_LINE c = search (rules, eight_laws)

pub returns : goal.returns
returns c = search (rules, eight_laws)
