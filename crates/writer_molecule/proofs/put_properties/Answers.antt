-- `writer_molecule::put_properties` meets its contract.
use borrow.Author.Rules.{rules}
use Rattle.writer_molecule.specs.Listing.{Listing, listing_laws}
use Rattle.writer_molecule.proofs.put_properties.Goals as goal

pub entry_count-left-requires : goal.entry_count-left-requires
entry_count-left-requires c = search (rules, listing_laws)

pub loop-left-init : goal.loop-left-init
loop-left-init c = search (rules, listing_laws)

pub at_most_eight-k-requires : goal.at_most_eight-k-requires
at_most_eight-k-requires c = search (rules, listing_laws)

pub put_property-p-requires : goal.put_property-p-requires
put_property-p-requires c = search (rules, listing_laws)

pub overflow_sub-left : goal.overflow_sub-left
overflow_sub-left c = search (rules, listing_laws)

pub loop-left-smaller : goal.loop-left-smaller
loop-left-smaller c = search (rules, listing_laws)

pub loop-left-preserved : goal.loop-left-preserved
loop-left-preserved c = search (rules, listing_laws)

pub shape_of-room : goal.shape_of-room
shape_of-room c = search (rules, listing_laws)

pub returns : goal.returns
returns c = search (rules, listing_laws)
