use Rattle.tally_good.specs.Steps.{pair_cast, pair_cast_2, pair_end, pair_end_2, pair_sum, pair_sum_2, pair_told}
use borrow.Author.Rules.{rules}
use Rattle.tally_good.proofs.order_at.Goals as goal

pub overflow_cast-to : goal.overflow_cast-to
overflow_cast-to c = search (rules, pair_cast, pair_cast_2, pair_end, pair_end_2, pair_sum, pair_sum_2, pair_told)

pub overflow_add-to : goal.overflow_add-to
overflow_add-to c = search (rules, pair_cast, pair_cast_2, pair_end, pair_end_2, pair_sum, pair_sum_2, pair_told)

pub overflow_cast-end : goal.overflow_cast-end
overflow_cast-end c = search (rules, pair_cast, pair_cast_2, pair_end, pair_end_2, pair_sum, pair_sum_2, pair_told)

pub overflow_add-end-2 : goal.overflow_add-end-2
overflow_add-end-2 c = search (rules, pair_cast, pair_cast_2, pair_end, pair_end_2, pair_sum, pair_sum_2, pair_told)

pub slice_bounds-order_of-end : goal.slice_bounds-order_of-end
slice_bounds-order_of-end c = search (rules, pair_cast, pair_cast_2, pair_end, pair_end_2, pair_sum, pair_sum_2, pair_told)

pub slice_bounds-order_of-end-2 : goal.slice_bounds-order_of-end-2
slice_bounds-order_of-end-2 c = search (rules, pair_cast, pair_cast_2, pair_end, pair_end_2, pair_sum, pair_sum_2, pair_told)

pub returns : goal.returns
returns c = search (rules, pair_cast, pair_cast_2, pair_end, pair_end_2, pair_sum, pair_sum_2, pair_told)
