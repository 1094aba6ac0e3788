use borrow.Author.Rules.{rules}
use Rattle.tally_flat.specs.Steps.{putting_start, putting_end, putting_next}
use Rattle.tally_flat.proofs.put_name.Goals as goal

pub loop-j-preserved : goal.loop-j-preserved
loop-j-preserved c = search (rules, putting_start, putting_end, putting_next)

pub returns : goal.returns
returns c = search (rules, putting_start, putting_end, putting_next)
