-- `reader_item::hunt` meets its contract.
use borrow.Author.Rules.{rules}
use Prim.Native.Nat.{◌-◌}
use lib.ListN.{length}
use Rattle.reader_item.specs.Hunting.{Hunting, hunting_laws}
use Rattle.reader_item.proofs.hunt.Goals as goal

pub loop-v-init : goal.loop-v-init
loop-v-init c = search (rules, hunting_laws)

pub whole_line-line-requires : goal.whole_line-line-requires
whole_line-line-requires c = search (rules, hunting_laws)

pub slice_bounds-title_line-count : goal.slice_bounds-title_line-count
slice_bounds-title_line-count c = search (rules, hunting_laws)

pub slice_bounds-title_line-start : goal.slice_bounds-title_line-start
slice_bounds-title_line-start c = search (rules, hunting_laws)

pub slice_bounds-title_line-end : goal.slice_bounds-title_line-end
slice_bounds-title_line-end c = search (rules, hunting_laws)

pub title_line-requires : goal.title_line-requires
title_line-requires c = search (rules, hunting_laws)

pub enum_told-1 : goal.enum_told-1
enum_told-1 c = search (rules, hunting_laws)

pub values_at-v-requires : goal.values_at-v-requires
values_at-v-requires c = search (rules, hunting_laws)

pub returns-in-Named : goal.returns-in-Named
returns-in-Named c = search (rules, hunting_laws)

pub enum_told-in-Other : goal.enum_told-in-Other
enum_told-in-Other c = search (rules, hunting_laws)

pub values_at-v-requires-in-Other : goal.values_at-v-requires-in-Other
values_at-v-requires-in-Other c = search (rules, hunting_laws)

pub loop-v-smaller : goal.loop-v-smaller
loop-v-smaller c = search (rules, hunting_laws)

pub loop-v-preserved : goal.loop-v-preserved
loop-v-preserved c = search (rules, hunting_laws)

pub enum_told-in-Close : goal.enum_told-in-Close
enum_told-in-Close c = search (rules, hunting_laws)

pub returns-in-Close : goal.returns-in-Close
returns-in-Close c = search (rules, hunting_laws)
