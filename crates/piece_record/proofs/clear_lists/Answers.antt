-- `piece_record::clear_lists` meets its contract.
use borrow.Author.Rules.{rules}
use Rattle.piece_record.specs.Promised.{lists_kept, lists_zeros}
use Rattle.piece_record.proofs.clear_lists.Goals as goal

pub returns-then-no-le2 : goal.returns-then-no-le2
returns-then-no-le2 c = lists_kept _ _ (search rules)

pub returns : goal.returns
returns c = lists_zeros _ _ (search rules)
