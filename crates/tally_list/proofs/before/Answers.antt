use Rattle.tally_list.specs.Same.{before_told}
use Rattle.tally_list.proofs.before.Goals as goal

pub returns : goal.returns
returns c = before_told _ _ _ c.order_front.ensures _ c.is_before.ensures
