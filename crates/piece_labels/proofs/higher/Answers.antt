-- `piece_labels::higher` meets its contract.
use borrow.Author.Rules.{rules}
use Rattle.piece_labels.specs.Labels.{label_tests}
use Rattle.piece_labels.proofs.higher.Goals as goal

pub returns-then-a-b : goal.returns-then-a-b
returns-then-a-b c = search (rules, label_tests)

pub returns : goal.returns
returns c = search (rules, label_tests)
