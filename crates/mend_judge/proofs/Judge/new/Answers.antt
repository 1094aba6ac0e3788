-- `mend_judge::Judge::new` meets its contract.
use borrow.Author.Rules.{rules}
use Rattle.mend_judge.specs.Judging.{fresh_is}
use Rattle.mend_judge.proofs.Judge.new.Goals as goal

pub returns : goal.returns
returns c = search (rules, fresh_is)
