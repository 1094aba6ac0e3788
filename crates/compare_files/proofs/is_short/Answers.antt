use borrow.Author.Rules.{rules}
use Rattle.compare_files.specs.Judging.{short_laws}
use Rattle.compare_files.proofs.is_short.Goals as goal

pub returns-then-ta-lt-ATOMS : goal.returns-then-ta-lt-ATOMS
returns-then-ta-lt-ATOMS c = search (rules, short_laws)

pub returns-then-tb-lt-BONDS : goal.returns-then-tb-lt-BONDS
returns-then-tb-lt-BONDS c = search (rules, short_laws)

pub returns-then-ua-lt-ATOMS : goal.returns-then-ua-lt-ATOMS
returns-then-ua-lt-ATOMS c = search (rules, short_laws)

pub returns : goal.returns
returns c = search (rules, short_laws)
