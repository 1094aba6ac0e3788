use borrow.Author.Rules.{rules}
use Rattle.compare_items.specs.Pairing.{pairing_laws}
use Rattle.compare_items.proofs.both_values.Goals as goal

pub loop-e-init : goal.loop-e-init
loop-e-init c = search (rules, pairing_laws)

pub value_at-requires : goal.value_at-requires
value_at-requires c = search (rules, pairing_laws)

pub enum_known-e : goal.enum_known-e
enum_known-e c = search (rules, pairing_laws)

pub enum_told-1 : goal.enum_told-1
enum_told-1 c = search (rules, pairing_laws)

pub shape_of-list-in_default : goal.shape_of-list-in_default
shape_of-list-in_default c = search (rules, pairing_laws)

pub returns-in_default : goal.returns-in_default
returns-in_default c = search (rules, pairing_laws)

pub value_at-requires-in-loop-e : goal.value_at-requires-in-loop-e
value_at-requires-in-loop-e c = search (rules, pairing_laws)

pub enum_known-f : goal.enum_known-f
enum_known-f c = search (rules, pairing_laws)

pub enum_told-in_default-value_at : goal.enum_told-in_default-value_at
enum_told-in_default-value_at c = search (rules, pairing_laws)

pub shape_of-list-in_default-value_at : goal.shape_of-list-in_default-value_at
shape_of-list-in_default-value_at c = search (rules, pairing_laws)

pub returns-in_default-value_at : goal.returns-in_default-value_at
returns-in_default-value_at c = search (rules, pairing_laws)

pub slice_bounds-texts-count : goal.slice_bounds-texts-count
slice_bounds-texts-count c = search (rules, pairing_laws)

pub slice_bounds-texts-start : goal.slice_bounds-texts-start
slice_bounds-texts-start c = search (rules, pairing_laws)

pub slice_bounds-texts-end : goal.slice_bounds-texts-end
slice_bounds-texts-end c = search (rules, pairing_laws)

pub slice_bounds-texts-count-in-loop-e : goal.slice_bounds-texts-count-in-loop-e
slice_bounds-texts-count-in-loop-e c = search (rules, pairing_laws)

pub slice_bounds-texts-start-in-loop-e : goal.slice_bounds-texts-start-in-loop-e
slice_bounds-texts-start-in-loop-e c = search (rules, pairing_laws)

pub slice_bounds-texts-end-in-loop-e : goal.slice_bounds-texts-end-in-loop-e
slice_bounds-texts-end-in-loop-e c = search (rules, pairing_laws)

pub texts-c-requires : goal.texts-c-requires
texts-c-requires c = search (rules, pairing_laws)

pub overflow_add-k : goal.overflow_add-k
overflow_add-k c = search (rules, pairing_laws)

pub loop-e-smaller : goal.loop-e-smaller
loop-e-smaller c = search (rules, pairing_laws)

pub loop-e-preserved : goal.loop-e-preserved
loop-e-preserved c = search (rules, pairing_laws)
