use borrow.Author.Rules.{rules}
use Rattle.reader_resume.specs.Laws.{reach_laws}
use Rattle.reader_resume.proofs.Passing.pass.Goals as goal

pub loop-i-init : goal.loop-i-init
loop-i-init c = search (rules, reach_laws)

pub returns-in-End : goal.returns-in-End
returns-in-End c = search (rules, reach_laws)

pub loop-i-preserved : goal.loop-i-preserved
loop-i-preserved c = search (rules, reach_laws)

pub returns : goal.returns
returns c = search (rules, reach_laws)
