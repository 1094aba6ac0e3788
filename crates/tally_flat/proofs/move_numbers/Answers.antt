use borrow.Author.Rules.{rules}
use Rattle.tally_flat.specs.Steps.{moving_start, moving_end, moving_next}
use Rattle.tally_flat.proofs.move_numbers.Goals as goal

pub loop-j-preserved : goal.loop-j-preserved
loop-j-preserved c = search (rules, moving_start, moving_end, moving_next)

pub returns : goal.returns
returns c = search (rules, moving_start, moving_end, moving_next)
