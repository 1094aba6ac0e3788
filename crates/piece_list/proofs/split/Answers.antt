-- `piece_list::split` meets its contract.
use native.Mathlib.Omega.{arith}
use Rattle.piece_labels.specs.Table.{inside_in}
use Rattle.piece_list.specs.Listing.{listing_start}
use Rattle.piece_list.specs.Made.{labels_low, split_made}
use Rattle.piece_list.proofs.split.Goals as goal

pub list_pieces-requires : goal.list_pieces-requires
list_pieces-requires c = let joined = c.label_atoms.ensures in
    listing_start _ _ _ _ c.requires.0.few (labels_low _ _ _ joined.1) c.requires.2 c.requires.3

pub returns : goal.returns
returns c = let joined = c.label_atoms.ensures in
    let listed = c.list_pieces.ensures in
    record {
      split = split_made _ _ _ _ _ _ joined.1 (inside_in _ _ _ c.requires.0 _ (omega arith)) listed;
      labels_len = (joined.0, listed.head_room, listed.size_room);
    }
