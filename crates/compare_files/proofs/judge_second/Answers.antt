use borrow.Author.Rules.{rules}
use Rattle.compare_files.specs.Judging.{judge_laws}
use Rattle.compare_files.proofs.judge_second.Goals as goal

pub returns-in-Ok : goal.returns-in-Ok
returns-in-Ok c = search (rules, judge_laws)

pub returns-in-Err : goal.returns-in-Err
returns-in-Err c = search (rules, judge_laws)
