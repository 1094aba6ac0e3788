use borrow.Author.Rules.{rules}
use Rattle.compare_items.specs.Items.{left_laws}
use Rattle.compare_items.proofs.rest_items.Goals as goal

pub loop-next-init : goal.loop-next-init
loop-next-init c = search (rules, left_laws)

pub line_at-requires : goal.line_at-requires
line_at-requires c = search (rules, left_laws)

pub enum_known-next : goal.enum_known-next
enum_known-next c = search (rules, left_laws)

pub enum_told-1 : goal.enum_told-1
enum_told-1 c = search (rules, left_laws)

pub shape_of-list-in_default : goal.shape_of-list-in_default
shape_of-list-in_default c = search (rules, left_laws)

pub returns-in_default : goal.returns-in_default
returns-in_default c = search (rules, left_laws)

pub put-c-requires : goal.put-c-requires
put-c-requires c = search (rules, left_laws)

pub past_item-x-requires : goal.past_item-x-requires
past_item-x-requires c = search (rules, left_laws)

pub overflow_add-k : goal.overflow_add-k
overflow_add-k c = search (rules, left_laws)

pub loop-next-smaller : goal.loop-next-smaller
loop-next-smaller c = search (rules, left_laws)

pub loop-next-preserved : goal.loop-next-preserved
loop-next-preserved c = search (rules, left_laws)
