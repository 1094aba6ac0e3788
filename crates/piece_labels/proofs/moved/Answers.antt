-- `piece_labels::moved` meets its contract.
use borrow.Author.Rules.{rules}
use Rattle.piece_labels.specs.Labels.{label_tests}
use Rattle.piece_labels.proofs.moved.Goals as goal

pub returns-then-label-high : goal.returns-then-label-high
returns-then-label-high c = search (rules, label_tests)

pub returns : goal.returns
returns c = search (rules, label_tests)
