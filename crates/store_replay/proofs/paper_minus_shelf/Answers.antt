-- `store_replay::paper_minus_shelf` meets its contract.
use Rattle.store_replay.specs.Stepping.{difference_fits, difference_is}
use Rattle.store_replay.proofs.paper_minus_shelf.Goals as goal

pub overflow_sub-result : goal.overflow_sub-result
overflow_sub-result c = difference_fits _ _ c.ranges.paper c.ranges.shelf

pub returns : goal.returns
returns c = difference_is _ _ c.ranges.paper c.ranges.shelf
