-- `capellanote::pieces::of_split` meets its contract.
use Rattle.capellanote.specs.Pieces.{split_array}
use borrow.Author.Rules.{rules}
use Rattle.capellanote.proofs.pieces.of_split.Goals as goal

pub returns-in-Pieces : goal.returns-in-Pieces
returns-in-Pieces c = search (rules, split_array)

pub returns-in-Refused : goal.returns-in-Refused
returns-in-Refused c = search (rules, split_array)
