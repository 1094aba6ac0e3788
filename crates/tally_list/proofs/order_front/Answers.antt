use Rattle.tally_list.specs.Same.{front_all, part_size}
use borrow.Author.Rules.{rules}
use Rattle.tally_list.proofs.order_front.Goals as goal

pub returns-then-bytes-n : goal.returns-then-bytes-n
returns-then-bytes-n c = search (rules, front_all)

pub slice_bounds-order_of-end : goal.slice_bounds-order_of-end
slice_bounds-order_of-end c = search (rules, part_size)
