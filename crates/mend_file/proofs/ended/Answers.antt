use Rattle.mend_file.specs.Walked.{end_laws}
use borrow.Author.Rules.{rules}
use Rattle.mend_file.proofs.ended.Goals as goal

pub returns-then-starts : goal.returns-then-starts
returns-then-starts c = search (rules, end_laws)

pub returns : goal.returns
returns c = search (rules, end_laws)
