use borrow.Author.Rules.{rules}
use Rattle.compare_items.specs.Resting.{resting_laws}
use Rattle.compare_items.proofs.rest_values.Goals as goal

pub loop-next-init : goal.loop-next-init
loop-next-init c = search (rules, resting_laws)

pub value_at-requires : goal.value_at-requires
value_at-requires c = search (rules, resting_laws)

pub enum_known-next : goal.enum_known-next
enum_known-next c = search (rules, resting_laws)

pub put-c-requires : goal.put-c-requires
put-c-requires c = search (rules, resting_laws)

pub overflow_add-k : goal.overflow_add-k
overflow_add-k c = search (rules, resting_laws)

pub loop-next-smaller : goal.loop-next-smaller
loop-next-smaller c = search (rules, resting_laws)

pub loop-next-preserved : goal.loop-next-preserved
loop-next-preserved c = search (rules, resting_laws)

pub enum_known-next-in-Over-1 : goal.enum_known-next-in-Over-1
enum_known-next-in-Over-1 c = search (rules, resting_laws)

pub shape_of-list-in-Over : goal.shape_of-list-in-Over
shape_of-list-in-Over c = search (rules, resting_laws)

pub returns-in-Over : goal.returns-in-Over
returns-in-Over c = search (rules, resting_laws)
