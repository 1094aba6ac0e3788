-- `piece_list::list_atom` meets its contract.
use Rattle.piece_list.specs.Listing.{listing_hit, listing_miss}
use Rattle.piece_list.proofs.list_atom.Goals as goal

pub returns-then-labels-i : goal.returns-then-labels-i
returns-then-labels-i c = listing_hit _ _ _ _ _ _ c.requires.1 c.requires.0 _ c.if-labels-i.true c.size_of.ensures

pub returns : goal.returns
returns c = listing_miss _ _ _ _ _ _ c.requires.1 c.requires.0 c.if-labels-i.false
