-- `writer_molecule::put_property` meets its contract.
use Rattle.writer_molecule.specs.Listing.{property_parts}
use borrow.Author.Rules.{rules}
use Rattle.writer_molecule.proofs.put_property.Goals as goal

pub returns : goal.returns
returns c = search (rules, property_parts)
