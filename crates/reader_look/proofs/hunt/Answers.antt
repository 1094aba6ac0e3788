-- `reader_look::hunt` meets its contract.
use borrow.Author.Rules.{rules}
use Prim.Native.Nat.{◌-◌}
use lib.ListN.{length}
use Rattle.reader_look.specs.Looking.{Looking, looking_laws}
use Rattle.reader_look.proofs.hunt.Goals as goal

pub loop-name_from-init : goal.loop-name_from-init
loop-name_from-init c = search (rules, looking_laws)

pub item_at-requires : goal.item_at-requires
item_at-requires c = search (rules, looking_laws)

pub enum_known-name_from : goal.enum_known-name_from
enum_known-name_from c = search (rules, looking_laws)

pub slice_bounds-same_name-count : goal.slice_bounds-same_name-count
slice_bounds-same_name-count c = search (rules, looking_laws)

pub slice_bounds-same_name-start : goal.slice_bounds-same_name-start
slice_bounds-same_name-start c = search (rules, looking_laws)

pub slice_bounds-same_name-end : goal.slice_bounds-same_name-end
slice_bounds-same_name-end c = search (rules, looking_laws)

pub same_name-named-requires : goal.same_name-named-requires
same_name-named-requires c = search (rules, looking_laws)

pub keep-sought-requires : goal.keep-sought-requires
keep-sought-requires c = search (rules, looking_laws)

pub overflow_add-lines : goal.overflow_add-lines
overflow_add-lines c = search (rules, looking_laws)

pub loop-name_from-smaller : goal.loop-name_from-smaller
loop-name_from-smaller c = search (rules, looking_laws)

pub loop-name_from-preserved : goal.loop-name_from-preserved
loop-name_from-preserved c = search (rules, looking_laws)

pub enum_known-next : goal.enum_known-next
enum_known-next c = search (rules, looking_laws)

pub overflow_add-lines-in-End : goal.overflow_add-lines-in-End
overflow_add-lines-in-End c = search (rules, looking_laws)

pub told-requires : goal.told-requires
told-requires c = search (rules, looking_laws)

pub returns-in-End : goal.returns-in-End
returns-in-End c = search (rules, looking_laws)

pub enum_known-no : goal.enum_known-no
enum_known-no c = search (rules, looking_laws)

pub unlooked-requires : goal.unlooked-requires
unlooked-requires c = search (rules, looking_laws)

pub returns-in-Refused : goal.returns-in-Refused
returns-in-Refused c = search (rules, looking_laws)
