-- `piece_list::list_pieces` meets its contract.
use borrow.Author.Rules.{rules}
use Rattle.piece_list.specs.Listing.{listing_end}
use Rattle.piece_list.proofs.list_pieces.Goals as goal

pub loop-i-init : goal.loop-i-init
loop-i-init c = c.requires

pub list_atom-count-requires : goal.list_atom-count-requires
list_atom-count-requires c = (search rules, c.loop-i.invariant)

pub loop-i-preserved : goal.loop-i-preserved
loop-i-preserved c = c.list_atom-count.ensures

pub returns : goal.returns
returns c = listing_end _ _ _ _ _ _ c.loop-i.invariant (search rules)
