use borrow.Author.Rules.{rules}
use Rattle.tally_flat.specs.Steps.{looking_start, looking_end, looking_lengths, looking_short, looking_bytes, looking_cast, looking_sum, looking_before, looking_here, looking_new}
use Rattle.tally_flat.proofs.find_in.Goals as goal

pub loop-i-preserved : goal.loop-i-preserved
loop-i-preserved c = search (rules, looking_start, looking_end, looking_lengths, looking_short, looking_bytes, looking_cast, looking_sum, looking_before, looking_here, looking_new)

pub returns-in-Same : goal.returns-in-Same
returns-in-Same c = search (rules, looking_start, looking_end, looking_lengths, looking_short, looking_bytes, looking_cast, looking_sum, looking_before, looking_here, looking_new)

pub returns-in-After : goal.returns-in-After
returns-in-After c = search (rules, looking_start, looking_end, looking_lengths, looking_short, looking_bytes, looking_cast, looking_sum, looking_before, looking_here, looking_new)

pub returns : goal.returns
returns c = search (rules, looking_start, looking_end, looking_lengths, looking_short, looking_bytes, looking_cast, looking_sum, looking_before, looking_here, looking_new)
