use borrow.Author.Rules.{rules}
use Rattle.compare_record.specs.Numbers.{counts_are}
use Rattle.compare_record.proofs.counts_apart.Goals as goal

pub returns : goal.returns
returns c = search (rules, counts_are)
