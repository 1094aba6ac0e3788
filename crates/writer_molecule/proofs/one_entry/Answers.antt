-- `writer_molecule::one_entry` meets its contract.
use Rattle.writer_molecule.specs.Listing.{zero_laws}
use borrow.Author.Rules.{rules}
use Rattle.writer_molecule.proofs.one_entry.Goals as goal

pub returns-then-is_zero : goal.returns-then-is_zero
returns-then-is_zero c = search (rules, zero_laws)

pub returns : goal.returns
returns c = search (rules, zero_laws)
