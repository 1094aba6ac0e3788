-- `writer_molecule::put_entry` meets its contract.
use Rattle.writer_molecule.specs.Listing.{entry_parts}
use borrow.Author.Rules.{rules}
use Rattle.writer_molecule.proofs.put_entry.Goals as goal

pub returns : goal.returns
returns c = search (rules, entry_parts)
