use borrow.Author.Rules.{rules}
use Rattle.compare_record.specs.Heads.{head_laws}
use Rattle.compare_record.proofs.head_at.Goals as goal

pub returns-in-Line : goal.returns-in-Line
returns-in-Line c = search (rules, head_laws)

pub returns-in-Unfinished : goal.returns-in-Unfinished
returns-in-Unfinished c = search (rules, head_laws)
