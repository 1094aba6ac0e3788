-- `capellanote::pieces::capellanote_pieces` meets its contract.
use Rattle.capellanote.specs.Pieces.{pieces_told}
use borrow.Author.Rules.{rules}
use Rattle.capellanote.proofs.pieces.capellanote_pieces.Goals as goal

pub returns : goal.returns
returns c =
    let both = pieces_told _ _ _ _ _ _ _ _ _ _ c.of_split.ensures c.split_record.ensures in
    record { answer_after = both.0; split_promise = both.1 }
