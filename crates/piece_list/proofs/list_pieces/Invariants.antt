use Rattle.piece_list.specs.Listing.{Listing}
use Rattle.piece_list.proofs.list_pieces.Given as goal

abbrev pub invariant-loop-i : goal.invariant-loop-i
invariant-loop-i l = Listing l.labels l.n l.heads l.sizes l.i l.count
