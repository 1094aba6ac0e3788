-- `piece_labels::own_label` meets its contract.
use Rattle.piece_labels.specs.Labels.{label_tests}
use borrow.Author.Rules.{rules}
use Rattle.piece_labels.proofs.own_label.Goals as goal

pub returns-then-i-n : goal.returns-then-i-n
returns-then-i-n c = search (rules, label_tests)

pub returns : goal.returns
returns c = search (rules, label_tests)
